-- The laws of the definitions of specs/.
pub mod InOrder
pub mod Totals
pub mod Looking
pub mod Scanning
pub mod Kept
pub mod Answer
pub mod Refusals
pub mod GivenOrder
pub mod FromTables
