pub mod Said
pub mod Passes
pub mod Keeping
pub mod Windows
