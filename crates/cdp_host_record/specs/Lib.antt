pub mod Records
pub mod Recordings
pub mod Replays
pub mod Standing
