pub mod Texts
pub mod Numbers
pub mod Exits
pub mod Taken
pub mod Durations
