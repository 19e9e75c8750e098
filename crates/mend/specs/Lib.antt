pub mod Marks
pub mod Erasing
