pub mod FoundLemmas
pub mod IdentifierLemmas
pub mod KnownLemmas
pub mod LayoutLemmas
pub mod ParamLemmas
