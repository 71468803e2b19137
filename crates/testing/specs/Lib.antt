-- The conditions after the first three, and what the answers of the tests say of a build.
pub mod Content
pub mod Tested
