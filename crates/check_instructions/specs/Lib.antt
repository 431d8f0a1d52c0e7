-- What the public clauses rest on.
pub mod Plain
pub mod Addresses
pub mod Cases
pub mod Branches
pub mod Phis
pub mod Instructions
-- What private clauses cite besides.
pub mod Places
