pub mod LayoutFile
pub mod Instances
