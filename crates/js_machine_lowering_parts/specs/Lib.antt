pub mod Literals
pub mod Sources
pub mod Spaces
pub mod Targets
