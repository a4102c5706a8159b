pub mod Answers
pub mod Fields
pub mod Paper
pub mod Ways
pub mod WorkFits
