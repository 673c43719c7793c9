pub mod AddLemmas
pub mod TreeLemmas
