pub mod WorkBits
pub mod WorkMoving
pub mod WorkReady
