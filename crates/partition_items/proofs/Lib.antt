pub mod Laws
pub mod Carrying
