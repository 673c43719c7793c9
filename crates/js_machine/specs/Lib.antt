pub mod Machines
pub mod Starts
pub mod Plain
pub mod Standing
