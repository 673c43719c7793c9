pub mod OptionLemmas
pub mod KindLemmas
pub mod WrittenLemmas
pub mod AskLemmas
pub mod ComputedForms
