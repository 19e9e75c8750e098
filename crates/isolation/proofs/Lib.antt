-- What is proved of the definitions and of the statements in specs/.
pub mod Instances
pub mod Meeting
pub mod Turns
pub mod Images
pub mod Replies
pub mod Runs
pub mod Isolated
pub mod Theorem
