pub mod Listed
pub mod Moves
