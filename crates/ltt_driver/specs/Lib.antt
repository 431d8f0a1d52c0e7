-- What the clauses of `ltt` rest on, in the order in which to read it.
pub mod Asked
pub mod Outcome
pub mod Files
-- What other functions say.
pub mod Telling
