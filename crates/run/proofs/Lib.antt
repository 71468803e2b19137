-- The proofs of a run.
pub mod Zeros
pub mod Making
pub mod OverPlaces
pub mod Finishing
