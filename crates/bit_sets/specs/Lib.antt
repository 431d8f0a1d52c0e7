-- What the public clauses rest on, in the order in which to read it.
pub mod BitSet
pub mod Rotation
pub mod Tests
pub mod Ordered
pub mod Lanes
pub mod Laws
-- Forms of the code.
pub mod Computing
