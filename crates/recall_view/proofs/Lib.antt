pub mod Examples
pub mod Left
pub mod LeftKeeps
pub mod TakenOut
