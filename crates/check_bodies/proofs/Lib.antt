pub mod GatheredLemmas
pub mod IndexLemmas
pub mod LabelLemmas
pub mod StandingLemmas
