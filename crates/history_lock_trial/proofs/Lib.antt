pub mod RowLemmas
pub mod PassLemmas
