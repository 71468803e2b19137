-- The positions of a set by subgroup, subgroups by the lowest rank in them.
pub mod Divided
pub mod Keys
