mod ListLemmas
pub mod TreeLemmas
