-- Sorts. Each is stated as equal to the sort by insertion of `lists`.
pub mod Contract
