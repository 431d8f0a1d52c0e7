-- what public clauses rest on
pub mod Numbers
pub mod Names
pub mod Types
pub mod Constants
pub mod Left
pub mod Items
pub mod Levels
pub mod Nodes
-- the computing side
pub mod Reading
pub mod Beginnings
pub mod Laws
