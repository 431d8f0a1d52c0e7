-- what public clauses rest on
pub mod Operands
pub mod Operations
pub mod Memory
pub mod Branches
pub mod Calls
pub mod Actions
-- the computing side
pub mod Reading
