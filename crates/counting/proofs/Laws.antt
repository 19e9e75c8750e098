pub mod Meet
pub mod Walk
pub mod Rows
