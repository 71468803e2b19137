-- Modules of a kind, and modules in execution order, as tables; a test of any two of a list.
pub mod AnyTwo
pub mod Listed
pub mod ByOrder
pub mod Slots
