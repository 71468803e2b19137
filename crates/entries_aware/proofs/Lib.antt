-- The subgroups of an entries-aware set on their turns.
pub mod AsItems
pub mod Runs
pub mod SetMembers
pub mod SetRanks
