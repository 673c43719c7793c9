pub mod Facts
pub mod Reserves
pub mod Berths
pub mod Changes
pub mod Knowing
pub mod Passes
pub mod Turns
pub mod Waits
