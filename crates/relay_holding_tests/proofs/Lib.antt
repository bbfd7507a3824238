pub mod DelayUnder
pub mod HeldUnder
