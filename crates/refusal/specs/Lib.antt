-- How a call refuses, what it leaves of the areas lent to it, and the limits of the counts.
pub mod Outcome
pub mod Call
pub mod Counts
pub mod Answers
