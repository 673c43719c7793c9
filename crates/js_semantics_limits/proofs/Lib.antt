pub mod CellLemmas
pub mod CallLemmas
pub mod CallLaws
pub mod StepLemmas
pub mod AnswerLemmas
