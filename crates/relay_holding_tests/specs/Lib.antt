pub mod DelayDesk
pub mod HeldUnder
