pub mod Losses
pub mod Places
pub mod Fallbacks
