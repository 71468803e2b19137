-- Laws of ids that neighbours share, and of ranks.
pub mod SameIds
pub mod Ranking
pub mod InIdOrder
