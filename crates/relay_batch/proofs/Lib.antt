pub mod Documents
pub mod Added
pub mod Tallying
