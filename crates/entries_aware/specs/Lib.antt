-- What the turns of an entries-aware set ask.
pub mod Divided
