pub mod LiteralLemmas
pub mod SourceLemmas
pub mod TargetLemmas
