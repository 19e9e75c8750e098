-- The definitions, boards salvaged, and laws.
pub mod Salvage
