-- Answers depend on the tokens that were read and on no others, form by form: what Locality is made of.
pub mod Tools
pub mod Parts
pub mod Expressions
pub mod Arrows
pub mod Assignments
pub mod Statements
