-- The laws of closed sets.
pub mod ClosedSets
