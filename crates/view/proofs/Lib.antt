pub mod Across
pub mod AcrossNothing
