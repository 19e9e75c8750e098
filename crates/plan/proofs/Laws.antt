pub mod Walks
pub mod Kinds
