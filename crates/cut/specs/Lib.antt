-- The cut of an oversized list of modules.
pub mod Candidate
pub mod Cut
pub mod Order
pub mod Scan
pub mod Tables
pub mod Call
