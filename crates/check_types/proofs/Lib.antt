pub mod EndLemmas
pub mod HeadLemmas
pub mod MeasureLemmas
pub mod PartLemmas
