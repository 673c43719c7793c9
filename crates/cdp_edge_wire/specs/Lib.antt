pub mod Arrived
pub mod MemWire
pub mod Written
