pub mod Merging
pub mod Changing
pub mod Holding
pub mod Heads
pub mod Counting
pub mod Shelving
pub mod Waiting
pub mod Calls
