-- What holds between two items of a run.
pub mod Fits
pub mod State
pub mod Turns
