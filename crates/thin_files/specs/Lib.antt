-- What the public clauses rest on, in the order in which to read it.
pub mod Thin
pub mod Laws
-- What other functions say.
pub mod Places
pub mod Shape
pub mod Rules
