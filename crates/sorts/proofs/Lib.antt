-- The laws of numbers with one key and of sorting by runs, and what the proofs of the code cite.
pub mod SameKey
pub mod SortRuns
pub mod RunByRun
