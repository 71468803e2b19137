-- The groups of a build on their turns.
pub mod Turn
