-- The names of a group have their turns one after another.
pub mod Matched
pub mod OneSet
pub mod Passing
pub mod Staying
pub mod OrderOf
pub mod SetOfRun
pub mod NameSteps
