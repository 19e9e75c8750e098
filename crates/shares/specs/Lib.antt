-- The definitions, and what they come to on small chips.
pub mod Shares
pub mod Layer
pub mod Instances
