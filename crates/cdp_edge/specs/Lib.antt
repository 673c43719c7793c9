pub mod Blame
pub mod FaultLog
pub mod FileShelf
pub mod Logs
pub mod MemShelf
pub mod MemSink
pub mod Outside
pub mod WriterSink
