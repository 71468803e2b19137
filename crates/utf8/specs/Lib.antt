-- UTF-8 (RFC 3629): which bytes are text, and where its characters start.
pub mod Table
pub mod Utf8
pub mod States
pub mod Start
