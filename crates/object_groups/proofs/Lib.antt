pub mod NumberLemmas
pub mod TableLemmas
pub mod GroupLemmas
pub mod IndexLemmas
