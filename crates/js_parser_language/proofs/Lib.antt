pub mod KindLemmas
pub mod Sources
pub mod PlaceLemmas
