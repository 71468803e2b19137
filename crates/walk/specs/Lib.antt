-- What is reached along dependencies, and the walk that marks it.
pub mod Reached
pub mod Names
pub mod Followed
pub mod Walk
pub mod Visited
pub mod Chains
