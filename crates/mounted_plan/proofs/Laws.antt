pub mod Space
pub mod Seen
pub mod Decided
