-- Dependency records laid anew.
pub mod Laid
pub mod Jumps
