pub mod Messages
pub mod Rule
pub mod Log
pub mod Steps
pub mod Ends
