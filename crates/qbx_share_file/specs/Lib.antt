pub mod AnyFile
pub mod ShareFile
pub mod Instances
pub mod Steps
