-- What is proved of the definitions and of the statements in specs/.
pub mod Instances
pub mod Sorted
pub mod Counted
pub mod Filling
pub mod Fresh
pub mod Works
pub mod Facts
