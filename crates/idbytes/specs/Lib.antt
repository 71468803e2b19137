-- Bytes of ids: a few as one number, and those that ids have in common at their start.
pub mod Blocks
pub mod Shared
