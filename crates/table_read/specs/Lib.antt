pub mod WorkPasses
pub mod WorkPuts
