pub mod Sums
pub mod WorkFair
