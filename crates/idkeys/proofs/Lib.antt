-- The laws of the numbers of a list of modules.
pub mod Filling
