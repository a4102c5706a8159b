pub mod DecimalLaws
pub mod RowLaws
pub mod SetLaws
