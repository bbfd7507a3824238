pub mod Flying
pub mod InFlight
