pub mod Kept
pub mod Listed
pub mod Mend
pub mod Mended
