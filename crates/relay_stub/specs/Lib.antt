pub mod Documents
pub mod Visits
pub mod Listing
pub mod Stub
