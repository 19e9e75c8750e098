pub mod Heads
pub mod Slots
pub mod Conditions
