-- Laws of ladders of conditions, of what a build hands in, of both ladders joined, and of the ranks that are left.
pub mod ContentLadder
pub mod OrderLadder
pub mod Handing
pub mod InputLadder
pub mod StateLadder
pub mod TestsJoined
pub mod RanksLeft
