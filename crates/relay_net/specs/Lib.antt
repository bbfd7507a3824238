pub mod Faults
pub mod Reaching
pub mod Retrying
pub mod Timing
pub mod Waiting
