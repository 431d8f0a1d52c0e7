pub mod SaidLemmas
pub mod WordLaws
