-- What the run of a tested build is handed.
pub mod RunInput
