-- What public contracts rest on.
pub mod Letters
pub mod Languages
pub mod Names
pub mod Kinds
pub mod Places
pub mod Texts
pub mod Reader
pub mod Laws
pub mod Words
pub mod Tables
-- Helpers: how the code finds the longest token.
pub mod Classes
pub mod Lengths
pub mod Choice
pub mod Steps
