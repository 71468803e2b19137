-- Modules sorted by their ids, block of bytes by block of bytes.
pub mod Rounds
