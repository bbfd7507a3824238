pub mod Messages
pub mod Running
pub mod Hearing
pub mod Exchanging
