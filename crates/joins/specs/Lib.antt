-- Subgroups, and what tells which of them join.
pub mod Subgroup
pub mod Held
pub mod Candidate
