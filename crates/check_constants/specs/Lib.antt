-- What the public clauses rest on.
pub mod Intrinsics
pub mod Numbers
pub mod Indices
pub mod Weighed
pub mod Addresses
pub mod Keeping
pub mod Shapes
pub mod Rules
pub mod Constants
pub mod Judged
pub mod Kept
pub mod Callees
