pub mod Intake
pub mod Room
