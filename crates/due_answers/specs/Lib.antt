-- what the public clauses rest on
pub mod Laws
