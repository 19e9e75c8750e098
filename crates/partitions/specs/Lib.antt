-- Request #109, one file for each idea, and what the definitions come to on small boards.
pub mod Layout
pub mod Partitions
pub mod Items
pub mod Writes
pub mod Answers
