pub mod Commands
pub mod Explains
pub mod Parts
pub mod Given
pub mod Requests
pub mod Held
pub mod Written
pub mod Helps
