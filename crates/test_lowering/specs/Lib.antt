-- What the public clauses rest on, in the order in which to read it.
pub mod Rewriting
pub mod TestAt
pub mod Exact
