-- Bit sets: the bits of one word, and entry bits in four words.
pub mod Word
pub mod Entries
pub mod Rows
