pub mod Flow
pub mod References
pub mod Contexts
pub mod Names
pub mod Functions
pub mod Texts
pub mod BuiltIns
