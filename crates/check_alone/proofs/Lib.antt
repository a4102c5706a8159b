pub mod Laws
pub mod OwnLaws
