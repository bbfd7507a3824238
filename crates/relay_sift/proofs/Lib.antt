pub mod FirstLines
pub mod Portions
pub mod Judging
pub mod Sifting
pub mod Subjects
pub mod Keeping
pub mod Listing
