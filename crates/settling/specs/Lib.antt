-- The chunk list as a run makes it: group by group, name by name, item by item.
pub mod Ends
pub mod Settled
pub mod Pieces
pub mod Traversal
pub mod Modules
