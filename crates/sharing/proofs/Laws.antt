pub mod Bounds
pub mod Written
pub mod Read
pub mod Put
