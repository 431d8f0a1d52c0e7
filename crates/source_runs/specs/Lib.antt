-- what the public clauses rest on
pub mod Words
pub mod Entries
pub mod Runs
pub mod Lines
pub mod Laws
