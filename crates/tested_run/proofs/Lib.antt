-- Laws of the run of a tested build.
pub mod TestedRun
