-- What the public clauses rest on, in the order in which to read it.
pub mod Ordered
pub mod Fragments
pub mod Slots
pub mod Layout
-- An example, for laws and tests.
pub mod Examples
pub mod Laws
-- Fragments under numbers, and labels of objects, which only private clauses cite.
pub mod Owners
