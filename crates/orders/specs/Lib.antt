-- Orders of numbers and of modules, and what the sort by insertion answers.
pub mod ById
pub mod Ascending
pub mod Upper
pub mod Insertion
