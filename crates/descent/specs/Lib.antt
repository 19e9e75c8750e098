pub mod Descent
pub mod Turns
pub mod Filled
