mod PartLemmas
mod HeadLemmas
mod HearLemmas
pub mod Computed
