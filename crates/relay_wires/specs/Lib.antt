pub mod Numbers
pub mod Meaning
pub mod Peers
pub mod Carriers
pub mod Telling
