pub mod BesideLemmas
pub mod PlainLemmas
