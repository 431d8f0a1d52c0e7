-- what the public clauses rest on
pub mod Puts
pub mod Names
pub mod Numbers
pub mod Words
