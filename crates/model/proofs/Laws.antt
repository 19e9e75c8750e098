-- What follows from the definitions of pages, slots, segments and requests, proved once for all later work.
pub mod Chip
pub mod Bytes
pub mod Pages
pub mod Programs
-- one page
pub mod AnyByte
pub mod Bits
pub mod HeaderPage
pub mod SlotPage
pub mod PageCuts
-- tables
pub mod Tables
-- the segments, the view, and the state
pub mod Segments
pub mod Effects
pub mod CopyOut
pub mod Ring
pub mod Clean
pub mod View
pub mod Exclusive
pub mod Counted
-- the corners of the blank test
pub mod Blank
-- a mount, and what refuses a mounted call
pub mod Mounted
-- what a cut has begun, and which steps set the owing mark
pub mod Begun
pub mod Marks
-- the bench table
pub mod Bench
pub mod Counts
