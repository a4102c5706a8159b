pub mod WriteLaws
pub mod PassLaws
