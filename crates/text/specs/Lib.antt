pub mod Decimal
pub mod Patch
pub mod Rows
pub mod Same
pub mod Widths
