-- What the public clauses rest on.
pub mod Layouts
pub mod Nodes
pub mod Known
pub mod Attached
pub mod Entries
pub mod Counts
pub mod Identifiers
pub mod Signatures
pub mod Linkages
pub mod Variables
pub mod Functions
pub mod Tables
pub mod Items
-- What private clauses cite besides.
pub mod Found
