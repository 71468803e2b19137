-- The laws of the definitions of specs/.
pub mod Least
pub mod Searching
pub mod Kept
pub mod Looking
pub mod Halving
pub mod Removing
pub mod Beside
pub mod Blocks
pub mod Targets
