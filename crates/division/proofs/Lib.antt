-- Proofs of the division of a set.
pub mod LowestRanks
pub mod ByRank
pub mod SameNumbers
pub mod LowestHeld
