pub mod Lines
pub mod Troubles
pub mod Reasons
pub mod Events
pub mod Saying
