pub mod SomeLemmas
pub mod AttachedLemmas
pub mod HeadLaws
