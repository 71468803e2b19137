-- Step 1 for one group: the set of each name in execution order, and what a group of a build reads.
pub mod Captured
pub mod Gathered
pub mod Built
pub mod OfBuild
