pub mod TopNames
pub mod Refusals
pub mod Scripts
pub mod Input
pub mod Told
