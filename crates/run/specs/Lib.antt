-- A run of Chunks over a build that has passed the tests.
pub mod Finished
pub mod Fits
pub mod Made
pub mod Ran
