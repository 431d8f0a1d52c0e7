-- What the public clauses rest on, in the order in which to read it.
pub mod Linkages
pub mod Variables
pub mod Blocks
pub mod Functions
pub mod Modules
pub mod Laws
-- What private clauses cite besides.
pub mod Runs
