-- The laws of the definitions of specs/.
pub mod Writing
pub mod Gathering
pub mod ByName
pub mod MatchedKeys
pub mod KeysTogether
