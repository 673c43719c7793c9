pub mod Trees
pub mod Views
pub mod Height
pub mod Spans
pub mod Kept
pub mod Scripts
pub mod Targets
