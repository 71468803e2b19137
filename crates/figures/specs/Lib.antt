-- Document 01's marked figures.
pub mod Figure
pub mod Marked
