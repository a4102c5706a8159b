pub mod View
pub mod Table
pub mod Outcome
pub mod Sized
pub mod Keeps
pub mod Runs
