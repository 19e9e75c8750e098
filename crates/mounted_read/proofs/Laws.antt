pub mod Refusals
pub mod Reads
