-- What the public clauses rest on.
pub mod Made
pub mod Registers
pub mod Operands
