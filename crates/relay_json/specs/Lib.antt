pub mod Items
pub mod Walks
pub mod Sole
pub mod Leaves
pub mod Plain
pub mod Decimals
