pub mod Destinations
pub mod Endings
pub mod Shown
pub mod New
