-- Stable ids: one byte slice and offsets into it.
pub mod Parts
pub mod Offsets
pub mod Order
