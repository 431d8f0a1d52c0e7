-- what public clauses rest on
pub mod Headers
pub mod Items
pub mod Metadata
pub mod Tables
pub mod Lines
pub mod Summaries
pub mod LeftUnits
pub mod Texts
-- the computing side
pub mod Reading
pub mod Beginnings
