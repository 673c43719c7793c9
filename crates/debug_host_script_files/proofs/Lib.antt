pub mod TopNameLemmas
pub mod InputLemmas
pub mod ScriptLemmas
pub mod ToldLemmas
