pub mod RegisterLemmas
pub mod RunLemmas
pub mod StartLemmas
pub mod CallLemmas
pub mod BranchLemmas
pub mod CallRunLemmas
pub mod CallExample
pub mod OperandLemmas
