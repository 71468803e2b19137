-- Chunks that are emitted.
pub mod Emitted
pub mod Areas
