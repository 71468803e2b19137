-- Laws of records laid anew.
pub mod Falling
pub mod LayingChain
pub mod LaidTables
