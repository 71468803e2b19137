-- What a build hands in of sizes and answers, and the names of a row of answers.
pub mod HandsIn
pub mod Names
