pub mod Tables
pub mod Heads
pub mod Frames
