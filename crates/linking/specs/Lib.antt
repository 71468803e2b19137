-- The chains of the chunks, and the areas between the items of a run.
pub mod Links
pub mod Made
pub mod Chains
