-- What follows from the definitions, proved once for all later work.

-- lists, bytes, steps and pages
pub mod Lists
pub mod Chunk
