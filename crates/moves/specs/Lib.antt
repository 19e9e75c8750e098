-- The definitions, moves computed, and laws.
pub mod Moves
pub mod Placed
