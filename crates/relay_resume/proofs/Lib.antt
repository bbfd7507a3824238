mod Trailing
mod Writing
mod Json
mod Utf8
mod ReadBack
mod OneMark
mod Lines
pub mod Skipping
pub mod Holding
pub mod Followed
pub mod Marked
