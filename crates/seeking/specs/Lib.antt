-- The search for the two subgroups that join.
pub mod Listed
pub mod Search
pub mod Seekers
