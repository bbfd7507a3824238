pub mod Texts
pub mod Asking
pub mod About
pub mod Keeping
pub mod Portions
pub mod Fronts
pub mod Sifting
pub mod Listing
