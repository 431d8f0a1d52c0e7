-- what the public clauses rest on
pub mod Called
pub mod ArgumentValues
pub mod Arms
pub mod Widths
pub mod CaseNumbers
pub mod NodeNumbers
