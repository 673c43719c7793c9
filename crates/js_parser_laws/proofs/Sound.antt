-- What is read is in the language, form by form: what Soundness is made of.
pub mod List
pub mod Part
pub mod Operator
pub mod Primary
pub mod Expression
pub mod Statement
