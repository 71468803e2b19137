-- The claim over the marked figures.
pub mod MarkedHold
