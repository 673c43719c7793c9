pub mod AnswerLemmas
mod ComputedNodeTexts
mod ComputedTrees
pub mod ExpressionLemmas
pub mod FaultLemmas
pub mod LanguageLemmas
pub mod LexedLemmas
pub mod NodeTextLemmas
pub mod OrderLemmas
pub mod PlaceLemmas
pub mod ReadLemmas
pub mod SpanLemmas
pub mod NumberLemmas
pub mod TextLemmas
