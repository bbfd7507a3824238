pub mod Taken
pub mod Numbers
