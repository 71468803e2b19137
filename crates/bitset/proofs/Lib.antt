-- The laws of the definitions of specs/.
pub mod Bits
pub mod Shifts
pub mod Words
pub mod Sets
pub mod Differing
pub mod Beyond
pub mod Rows
