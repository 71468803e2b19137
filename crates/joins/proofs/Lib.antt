-- The laws of the definitions of specs/.
pub mod Doubles
pub mod Nearest
