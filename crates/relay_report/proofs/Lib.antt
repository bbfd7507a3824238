pub mod Lines
pub mod Taking
pub mod Counting
pub mod Naming
pub mod Picked
pub mod ReadBack
pub mod Noted
pub mod Inputs
