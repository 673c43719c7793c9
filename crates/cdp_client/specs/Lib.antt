pub mod Lines
pub mod LineRead
pub mod Arrivals
pub mod ArrivalRead
pub mod Talks
pub mod Waits
pub mod Numbers
pub mod Conversations
