-- Laws of modules that are kept, of two of a list, and of both ways to execution order.
pub mod Keeping
pub mod TwoOf
pub mod SharedKeys
pub mod PutByOrder
pub mod BySlots
