-- The laws of the definitions of specs/, and what holds on each turn of the loop that cuts.
pub mod Filled
pub mod Stored
pub mod Totals
pub mod PartTabled
pub mod Backwards
pub mod Told
pub mod Turn
pub mod Areas
