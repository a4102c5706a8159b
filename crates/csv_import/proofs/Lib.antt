pub mod TableLaws
pub mod Steps
pub mod Judging
pub mod WalkLaws
pub mod PutLaws
