-- What is proved of the definitions and of the statements in specs/.
pub mod Readings
pub mod Fewer
pub mod Untorn
pub mod Last
pub mod Torn
pub mod Owing
pub mod Recovers
pub mod Room
pub mod Puts
pub mod Events
pub mod Fresh
pub mod Theorem
pub mod Uncut
pub mod Shown
pub mod Examples
