-- Document 01, section by section.
pub mod Lists
pub mod Chip
pub mod Header
pub mod Blank
pub mod Slot
pub mod State
pub mod Steps
pub mod Table
pub mod Answers
pub mod Histories
pub mod Sequences
pub mod Begun
pub mod Mounted
pub mod Pages
pub mod Bench
pub mod Laws
