-- Names of chunks: the name itself, the conditions, the call, and worked examples.
pub mod Name
pub mod Given
pub mod Conditions
pub mod Call
pub mod Append
pub mod Tables
pub mod Examples
