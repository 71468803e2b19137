-- What the law of other execution orders is about.
pub mod Reordering
