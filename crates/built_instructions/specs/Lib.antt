-- What the public clauses rest on.
pub mod Values
pub mod Plain
pub mod Branches
pub mod Arguments
pub mod Calls
pub mod Instructions
-- Laws.
pub mod Laws
