-- The laws of sorted lists and of sorting by insertion, and what the proofs of the code cite.
pub mod Neighbours
pub mod Orders
pub mod Naming
pub mod NeighbourOrder
pub mod BlockOrder
pub mod InsertOne
pub mod InsertAll
pub mod Buckets
