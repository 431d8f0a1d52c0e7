pub mod PutLemmas
pub mod FlatLemmas
