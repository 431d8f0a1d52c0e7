pub mod NumberLemmas
pub mod LeftLaws
pub mod LevelLaws
