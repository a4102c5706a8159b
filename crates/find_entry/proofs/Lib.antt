pub mod Addenda
pub mod Parts
pub mod Walk
pub mod Places
pub mod Accepted
