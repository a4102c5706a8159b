pub mod Alter
pub mod WorkSides
