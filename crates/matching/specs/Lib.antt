-- Step 1 for one group: the modules that take part, by name.
pub mod Matched
pub mod ByName
