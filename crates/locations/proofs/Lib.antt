pub mod TreeLemmas
pub mod WordLemmas
pub mod WalkLemmas
pub mod KindLemmas
pub mod OrderLemmas
pub mod SearchLemmas
pub mod CoverLemmas
