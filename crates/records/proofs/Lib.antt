-- The laws of the definitions of specs/.
pub mod Chain
pub mod Ascending
pub mod Ends
pub mod ChainMarks
pub mod Known
pub mod Marking
pub mod Table
pub mod FromOne
