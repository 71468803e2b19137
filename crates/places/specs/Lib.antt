-- The modules of a build in execution order and in id order, and the answer to refusals 4 and 5.
pub mod Ordered
