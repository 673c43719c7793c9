pub mod ResolvingLemmas
pub mod ListLemmas
pub mod AscendingLemmas
pub mod PlaceLemmas
pub mod FilterLemmas
pub mod IndexedLemmas
pub mod HoldingLemmas
pub mod HitLemmas
