-- A limit: absent, or a double.
pub mod Limits
