pub mod LawLemmas
pub mod LeftLemmas
