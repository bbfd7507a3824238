pub mod Numbers
pub mod Connections
pub mod Results
pub mod Telling
