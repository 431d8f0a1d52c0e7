-- What the public clauses rest on.
pub mod Named
pub mod Heads
pub mod Left
pub mod Written
pub mod Measures
pub mod Differences
pub mod Replaced
pub mod Parts
-- What private clauses cite besides.
pub mod Marks
