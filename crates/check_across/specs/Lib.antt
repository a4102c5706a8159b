pub mod Across
pub mod WorkSmall
