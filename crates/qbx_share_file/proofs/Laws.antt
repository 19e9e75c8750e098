pub mod Parts
pub mod Words
pub mod Kept
pub mod Lines
