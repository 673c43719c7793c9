pub mod Debuggings
pub mod Entries
pub mod Presences
pub mod States
pub mod Turns
