-- The claim over the worked examples.
pub mod ExamplesHold
