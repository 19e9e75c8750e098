pub mod Composed
pub mod Compaction
