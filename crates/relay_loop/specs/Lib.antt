pub mod Loops
pub mod Exchanges
