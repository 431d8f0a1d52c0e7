pub mod ShapeLemmas
pub mod LongestLemmas
pub mod BeginsLemmas
pub mod CutLaws
pub mod AtomLemmas
