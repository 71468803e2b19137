-- Dependency records and their chains.
pub mod Chain
pub mod Ascending
pub mod Bad
pub mod Marks
