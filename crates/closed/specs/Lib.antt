-- Closed sets, and sets found past them.
pub mod Closed
