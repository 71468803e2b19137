-- What a build hands in, by the tables that a condition reads, and the order of the conditions.
pub mod HandsIn
pub mod Ladder
