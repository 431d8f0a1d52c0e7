-- what the public clauses rest on
pub mod Model
pub mod Placement
pub mod Symbolic
pub mod Worlds
pub mod Numeric
pub mod Stated
pub mod Laws
pub mod Cells
pub mod Images
