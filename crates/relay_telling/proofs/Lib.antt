pub mod ToldTo
pub mod New
