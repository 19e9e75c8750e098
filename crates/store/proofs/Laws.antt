pub mod Requests
pub mod Counts
