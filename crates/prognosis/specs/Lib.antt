pub mod Foretold
