pub mod Waiting
pub mod Heaps
