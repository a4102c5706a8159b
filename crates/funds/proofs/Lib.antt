pub mod FrontLaws
pub mod RowLaws
pub mod AskLaws
pub mod Asked
pub mod CheckLaws
pub mod Examples
pub mod WalkLaws
