pub mod FlawLemmas
pub mod SearchLemmas
