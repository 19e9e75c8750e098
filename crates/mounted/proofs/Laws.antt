pub mod Writes
pub mod Puts
