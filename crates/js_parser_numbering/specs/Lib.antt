pub mod NodeSpans
pub mod Numbered
pub mod NumberedPlaces
pub mod Numbering
