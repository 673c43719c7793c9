pub mod TurnLemmas
pub mod EndLemmas
