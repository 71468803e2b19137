-- The laws of the definitions of specs/.
pub mod OneMore
pub mod Chunk
pub mod Turn
pub mod Numbers
pub mod RecordsRead
pub mod Chunks
pub mod Backwards
pub mod SameAreas
