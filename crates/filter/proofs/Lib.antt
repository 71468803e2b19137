-- The laws of the definitions of specs/.
pub mod FilterLaws
pub mod Ways
