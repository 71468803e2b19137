-- The laws of the exported functions.
pub mod Answering
pub mod NoCut
pub mod Options
pub mod Zero
