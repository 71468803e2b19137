-- Tables of names, and the conditions on them.
pub mod Names
pub mod Conditions
