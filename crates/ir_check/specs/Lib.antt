-- What the public clauses rest on, in the order in which to read it.
pub mod Units
pub mod Answers
-- What private clauses cite besides.
pub mod Walk
