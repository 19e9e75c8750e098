-- What is proved of the definitions and of the statements in specs/.
pub mod Requests
pub mod Sequence
pub mod Instances
pub mod Examples
