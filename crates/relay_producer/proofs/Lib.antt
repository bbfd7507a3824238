pub mod Closing
pub mod Counting
pub mod Opening
pub mod Putting
pub mod Reading
pub mod Sending
