pub mod KeepLemmas
pub mod SoundLemmas
pub mod KeyLemmas
pub mod PlaceLemmas
pub mod MapLemmas
