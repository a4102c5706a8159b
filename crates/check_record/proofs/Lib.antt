pub mod Laws
pub mod QuickLaws
pub mod Ways
