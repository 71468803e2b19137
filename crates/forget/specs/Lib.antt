-- Marks of followed records.
pub mod Unfollowed
