pub mod WordLemmas
pub mod NumberLaws
pub mod AnswerLaws
pub mod PrintLemmas
