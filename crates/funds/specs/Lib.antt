pub mod Funds
pub mod Outcome
pub mod RunsOut
pub mod Summed
pub mod WorkRows
