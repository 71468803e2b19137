-- The laws of the definitions of specs/.
pub mod Captured
pub mod Start
pub mod Ladder
pub mod Accepted
pub mod WrittenOnce
