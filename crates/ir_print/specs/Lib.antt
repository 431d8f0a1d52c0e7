-- what the public clauses rest on
pub mod Pieces
pub mod Types
pub mod Constants
pub mod Instructions
pub mod Items
pub mod ModuleText
-- helpers
pub mod Printing
