pub mod Sorting
pub mod Heaping
pub mod Delaying
pub mod Dues
