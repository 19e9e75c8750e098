-- What is proved of the definitions and of the statements in specs/.
pub mod Counts
pub mod Puts
pub mod Recovers
pub mod Theorem
pub mod Examples
