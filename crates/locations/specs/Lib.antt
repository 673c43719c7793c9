pub mod Marks
pub mod Kinds
pub mod Locations
pub mod Order
pub mod Search
