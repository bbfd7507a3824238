pub mod Retrying
pub mod Trying
