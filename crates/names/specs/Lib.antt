-- The sets of one group on their turns.
pub mod Turn
