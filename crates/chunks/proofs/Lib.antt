-- Laws of the call Chunks, and the renumbering rule of two calls.
pub mod StateLeft
pub mod Passing
pub mod Renumbered
