pub mod Targets
pub mod Addresses
