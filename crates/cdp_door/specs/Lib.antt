pub mod Fields
pub mod Callers
pub mod Keys
pub mod Requests
pub mod Answers
pub mod Texts
pub mod Greetings
