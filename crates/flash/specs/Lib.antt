pub mod Units
pub mod Ran
pub mod Pages
