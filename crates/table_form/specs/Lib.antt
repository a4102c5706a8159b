pub mod WorkSections
pub mod Forms
pub mod WorkWalking
