pub mod Operations
pub mod Queues
pub mod Shelf
