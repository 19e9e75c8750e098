pub mod Foretells
