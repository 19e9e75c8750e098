pub mod ItemLines
pub mod Instances
