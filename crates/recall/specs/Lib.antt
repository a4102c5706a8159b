pub mod WorkCounting
pub mod WorkReady
