pub mod Kinds
pub mod Writes
