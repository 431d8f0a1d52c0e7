-- what the public clauses rest on
pub mod Sizes
pub mod Identifiers
pub mod Carriers
pub mod Counted
pub mod Items
pub mod Denoted
pub mod Same
pub mod Places
pub mod Marks
pub mod Types
pub mod Laws
-- what private clauses cite besides
pub mod Listed
