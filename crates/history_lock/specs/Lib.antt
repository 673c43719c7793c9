pub mod Histories
pub mod Passes
pub mod Rule
pub mod Steps
pub mod Views
