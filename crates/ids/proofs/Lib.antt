-- The laws of the definitions of specs/.
pub mod ByteOrder
pub mod OffsetTable
pub mod IdParts
