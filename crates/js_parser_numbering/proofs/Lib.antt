pub mod CountLemmas
pub mod NodeSpanLemmas
pub mod NumberedLaws
pub mod NumberedPlaceLaws
pub mod PlacingLemmas
