pub mod PlacedLemmas
pub mod ReportLemmas
pub mod FallbackLemmas
