-- The options of a build and of its groups.
pub mod Force
pub mod Nan
pub mod Tables
