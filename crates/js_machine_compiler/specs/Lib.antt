pub mod Plain
pub mod Added
pub mod Grown
pub mod Operations
pub mod Index
pub mod Scripts
