pub mod DecimalLemmas
pub mod LineTableLemmas
pub mod LinesLemmas
pub mod PartsLemmas
pub mod PositionLemmas
pub mod UnitsLemmas
pub mod TestLemmas
pub mod ListLemmas
