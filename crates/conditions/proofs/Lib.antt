-- Laws that the functions of the conditions cite, and what each condition leaves for the next.
pub mod CountsLeft
pub mod JoinedTests
pub mod InputParts
pub mod TablesLeft
