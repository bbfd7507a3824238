pub mod Counts
pub mod Identities
pub mod Putting
