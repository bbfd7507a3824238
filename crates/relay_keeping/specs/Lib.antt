pub mod Histories
pub mod Keepers
pub mod Tellers
pub mod Meeting
pub mod Steps
pub mod Met
pub mod Seats
