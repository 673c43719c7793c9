pub mod Rules
pub mod Causes
pub mod Alone
pub mod Beside
