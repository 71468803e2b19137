-- Similarity of two stable ids.
pub mod Similarity
