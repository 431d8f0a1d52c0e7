pub mod TableLemmas
pub mod EntryLaws
