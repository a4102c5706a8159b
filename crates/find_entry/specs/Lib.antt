pub mod AskedSpan
pub mod WorkAsked
pub mod WorkFind
pub mod WorkThere
