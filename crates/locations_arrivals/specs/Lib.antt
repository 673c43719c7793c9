pub mod Belonging
pub mod Arrivals
pub mod Raises
