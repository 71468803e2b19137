-- The static filter of a group.
pub mod Filter
