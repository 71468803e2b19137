-- The laws of the definitions of specs/.
pub mod ExamplesHold
pub mod Appending
pub mod EntryParts
pub mod FrontOfName
pub mod NameKinds
pub mod HashBytes
pub mod TableTests
pub mod ChunkTests
pub mod NameLength
pub mod Naming
pub mod NameText
