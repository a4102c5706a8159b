pub mod LeftLaws
pub mod CountLaws
pub mod OutLaws
