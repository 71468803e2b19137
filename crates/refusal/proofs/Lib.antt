-- The laws of the definitions of specs/.
pub mod Calls
pub mod Ladder
pub mod Lengths
pub mod Lowest
