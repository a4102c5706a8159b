pub mod Earlier
pub mod Permits
pub mod Told
