pub mod Boxes
pub mod Flat
pub mod Kinds
pub mod Language
pub mod Places
pub mod Tokens
pub mod Well
