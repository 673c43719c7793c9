pub mod Outboxes
pub mod Results
pub mod Scripts
pub mod Exceptions
pub mod Prints
pub mod Ends
