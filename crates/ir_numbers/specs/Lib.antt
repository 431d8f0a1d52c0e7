-- what the public clauses rest on
pub mod Numbers
pub mod Arithmetic
pub mod Layout
-- helpers
pub mod Spaces
