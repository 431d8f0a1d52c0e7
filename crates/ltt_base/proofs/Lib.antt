pub mod CallerLemmas
pub mod OutsideLemmas
pub mod StackLemmas
pub mod MemoryLemmas
