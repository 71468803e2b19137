-- An item on its turn takes a run from one state to the next.
pub mod Tests
pub mod SumWithin
pub mod ModulesAt
pub mod ByRanks
pub mod ChunkMatches
pub mod EmissionsMatch
pub mod StateLeft
pub mod ItemReady
pub mod ItemStep
pub mod ItemTurn
pub mod Advancing
