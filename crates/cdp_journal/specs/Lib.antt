pub mod Escapes
pub mod Lines
pub mod LineRead
pub mod Fronts
pub mod Drills
pub mod Summaries
pub mod RanRead
