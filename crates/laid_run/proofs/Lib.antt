-- Laws of a run over records laid anew.
pub mod RecordsLeft
pub mod SameList
