pub mod Appended
pub mod Written
pub mod Ran
pub mod Listed
pub mod Repeated
pub mod Served
