-- What the public clauses rest on.
pub mod Callees
pub mod Arguments
pub mod Fitting
pub mod Calls
