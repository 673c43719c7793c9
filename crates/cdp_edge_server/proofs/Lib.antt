mod AnswerLemmas
mod GivingLemmas
mod HoldLemmas
pub mod ToldLemmas
