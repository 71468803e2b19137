-- The capture of a module and its dependencies. What is reached, and what a module names, stand in `walk/specs`.
pub mod Capture
pub mod Start
pub mod Call
