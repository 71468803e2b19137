-- Modules above the maximum, in id order, and the chunks of their pieces.
pub mod Chunks
