pub mod Totals
pub mod Hearing
pub mod Noting
pub mod Keeping
pub mod Answering
pub mod Ending
pub mod Popping
pub mod Joining
pub mod Dealing
pub mod Meeting
pub mod Summing
pub mod Firsts
pub mod Finishing
pub mod Delivering
pub mod Together
mod Results
pub mod ToldOnce
pub mod Draining
