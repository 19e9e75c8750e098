pub mod Gathered
pub mod Told
pub mod Lie
