-- what the public clauses rest on
pub mod Same
pub mod Runs
pub mod Laws
