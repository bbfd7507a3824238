pub mod Plain
pub mod Parts
pub mod Appended
pub mod ReadsBack
mod Using
pub mod UsualLines
pub mod Pieces
pub mod Asking
pub mod Fields
pub mod Deciding
pub mod Taking
pub mod Stopping
pub mod Readings
pub mod Fronts
pub mod Exclusion
pub mod Totality
pub mod TwoLines
mod Feeds
mod LineEnds
pub mod Versioning
pub mod Bodies
pub mod OneBody
pub mod OneOperation
pub mod Written
