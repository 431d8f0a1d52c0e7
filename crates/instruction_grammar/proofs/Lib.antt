pub mod PhiLaws
pub mod ActionLaws
