pub mod Finishes
pub mod Marks
