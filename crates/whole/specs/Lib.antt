-- Sizes: whole numbers, and the doubles that they are added and compared as.
pub mod Double
pub mod Total
