pub mod Kinds
pub mod Sources
pub mod Catchers
pub mod Scopes
pub mod Shown
pub mod Walks
