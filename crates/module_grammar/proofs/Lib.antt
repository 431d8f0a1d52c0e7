pub mod FormLaws
pub mod LineLaws
pub mod EntryLaws
pub mod LeftLaws
