pub mod Mails
pub mod Passes
pub mod Keeping
pub mod Fresh
pub mod Sending
