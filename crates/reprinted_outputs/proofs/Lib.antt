pub mod CountLemmas
pub mod NameLemmas
pub mod VariableLemmas
pub mod FunctionLemmas
pub mod OutputLaws
pub mod ReadOutputs
