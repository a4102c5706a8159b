pub mod Sections
pub mod Outcomes
pub mod Writing
