-- The laws of blocks and of shared bytes, and what the proofs of the code cite.
pub mod Bytes
pub mod EightBytes
pub mod Prefixes
pub mod SameBytes
pub mod Sharing
