-- what the public clauses rest on
pub mod Flaws
pub mod Spaces
pub mod Reserved
pub mod File
-- helpers
pub mod Index
