-- Ranks in id order, as tables, and the test of refusal 4 by neighbours.
pub mod ById
