-- Modules as numbers, for the sort by id.
pub mod Keys
