-- What is in the language is read as itself, form by form: what Completeness is made of.
pub mod For
pub mod Front
pub mod List
pub mod Part
pub mod Production
pub mod Statement
pub mod Head
pub mod Level
pub mod Primary
pub mod Unary
pub mod Operation
pub mod ArrowHead
pub mod Assignment
pub mod Property
pub mod Expression
