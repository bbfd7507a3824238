pub mod Words
pub mod Numbers
pub mod Config
pub mod Events
pub mod Answers
pub mod Flows
pub mod Scripts
pub mod Exits
