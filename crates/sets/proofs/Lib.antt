-- The laws of the definitions of specs/.
pub mod Marking
pub mod Leaving
pub mod Placing
pub mod Counting
pub mod Starts
pub mod Building
pub mod FoundAlone
pub mod TakesAt
pub mod FromPassed
pub mod Ready
pub mod NamesMatched
pub mod BuiltSets
