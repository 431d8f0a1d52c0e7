-- what public clauses rest on
pub mod Choices
pub mod Forms
pub mod Units
pub mod Reads
pub mod Answers
pub mod Laws
-- the computing side
pub mod UnitReaders
pub mod Reading
pub mod Stuck
pub mod Lexing
