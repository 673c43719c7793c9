pub mod Fates
pub mod Laws
pub mod Links
pub mod Texts
