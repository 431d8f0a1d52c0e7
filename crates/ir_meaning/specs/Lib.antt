-- what the public clauses rest on
pub mod Sequence
pub mod Places
pub mod Registers
pub mod Operands
pub mod Frames
pub mod Addresses
pub mod Instructions
pub mod Branches
pub mod Plain
pub mod Calls
pub mod Externals
pub mod Steps
pub mod Starts
pub mod Laws
-- what clauses of parts rest on
pub mod Acts
