-- What is proved of the definitions and of the statements in specs/.
pub mod Instances
pub mod Runs
pub mod Backwards
pub mod Inside
pub mod Reach
pub mod Carry
pub mod Filling
pub mod Calls
pub mod Statuses
pub mod Maps
pub mod Theorem
pub mod Applied
pub mod Segments
