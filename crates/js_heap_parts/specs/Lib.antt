pub mod Parts
pub mod Shown
pub mod Left
pub mod Laws
