pub mod Alike
pub mod Given
pub mod Trees
