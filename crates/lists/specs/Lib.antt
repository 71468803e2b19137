-- Small definitions over lists and numbers that the other crates' definitions are written with.
pub mod Area
pub mod Below
pub mod Elem
pub mod Keep
pub mod Keys
pub mod Least
pub mod Packed
pub mod Range
pub mod Same
pub mod Sort
pub mod Stored
pub mod Sum
