pub mod Export
pub mod Quoting
pub mod Lining
