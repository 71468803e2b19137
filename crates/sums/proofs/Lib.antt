-- Laws of the total of the sizes and of the count of pairs.
pub mod KeptSums
pub mod MetNames
pub mod PairCount
pub mod RowCount
