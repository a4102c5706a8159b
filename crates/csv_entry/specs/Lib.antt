pub mod Entries
pub mod Import
