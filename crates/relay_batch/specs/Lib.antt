pub mod Batches
pub mod Gathering
pub mod Tallies
