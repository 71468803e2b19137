-- An item above its maximum: its modules in id order, and the pieces that they are cut into.
pub mod InOrder
pub mod Neighbours
pub mod Cutting
pub mod Stores
