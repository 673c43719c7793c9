pub mod Answers
pub mod Expressions
pub mod Faults
pub mod Lexing
pub mod NodeTexts
pub mod Sources
pub mod Spans
pub mod Texts
