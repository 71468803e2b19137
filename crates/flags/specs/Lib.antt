-- The flag byte of a module.
pub mod Flags
