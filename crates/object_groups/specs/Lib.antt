pub mod Handles
pub mod Numbers
pub mod Table
pub mod Groups
pub mod Index
