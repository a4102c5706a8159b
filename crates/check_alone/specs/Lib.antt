pub mod Kinds
pub mod Mark
pub mod Own
