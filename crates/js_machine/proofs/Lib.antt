pub mod ScriptLemmas
pub mod PlainLemmas
pub mod MachineLemmas
pub mod StartLemmas
