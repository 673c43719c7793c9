-- Where reading stops, the tokens before begin a well-formed tree, form by form: what Exactness is made of.
pub mod Tools
pub mod Lists
pub mod Parts
pub mod Expressions
pub mod Assignments
pub mod Statements
pub mod Whole
pub mod First
pub mod Below
