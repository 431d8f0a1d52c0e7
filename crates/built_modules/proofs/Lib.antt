pub mod BlockLaws
pub mod RunLemmas
