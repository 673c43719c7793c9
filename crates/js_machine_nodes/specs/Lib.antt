pub mod Lists
pub mod Ops
pub mod Forms
pub mod Trees
pub mod Codes
