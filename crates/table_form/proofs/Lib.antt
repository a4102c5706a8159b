pub mod ShapeLaws
pub mod FormLaws
pub mod WalkLaws
