pub mod Record
pub mod Verdict
