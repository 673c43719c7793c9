pub mod FrameKinds
pub mod KindLemmas
pub mod ActiveLemmas
pub mod CatchLemmas
pub mod FrameLemmas
pub mod ShownLemmas
pub mod WalkLemmas
