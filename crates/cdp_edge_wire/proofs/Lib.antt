mod GivenLemmas
pub mod WrittenLemmas
