pub mod Ends
pub mod Signals
pub mod Puts
pub mod States
