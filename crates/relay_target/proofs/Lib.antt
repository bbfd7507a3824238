mod Escapes
mod Splitting
mod Naming
pub mod Parts
