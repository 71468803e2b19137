-- The merge of small subgroups of an entries-aware set.
pub mod Merge
pub mod Tables
pub mod Engine
pub mod Call
