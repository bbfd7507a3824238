pub mod Losses
pub mod Tellings
