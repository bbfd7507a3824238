pub mod States
pub mod Choices
pub mod Runs
pub mod Lists
pub mod Keys
pub mod Plans
pub mod Serving
pub mod Laws
