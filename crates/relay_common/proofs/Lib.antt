pub mod Totals
pub mod Handing
pub mod Putting
