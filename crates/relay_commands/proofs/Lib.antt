mod Answering
pub mod Versions
pub mod Writing
pub mod Streaming
pub mod Passing
mod Bodies
mod Parts
