pub mod State
pub mod Refusals
pub mod Changes
pub mod Steps
pub mod Headline
pub mod Ties
pub mod Memory
pub mod View
