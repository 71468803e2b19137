-- The laws of sorting by blocks, run by run, and what the proofs of the code cite.
pub mod Refining
pub mod SharedBlocks
pub mod ByBlocks
pub mod Inserting
pub mod OneRound
