-- Laws of whole numbers as doubles, for the crates above. `Drift` is the theorem that totals of sizes can't drift.
pub mod Tests
pub mod Value
pub mod Exact
pub mod Order
pub mod Compare
pub mod AnyDouble
pub mod Larger
pub mod Total
pub mod Drift
