pub mod SignedLemmas
pub mod LayoutLemmas
