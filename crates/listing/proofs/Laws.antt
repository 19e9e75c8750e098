pub mod Shows
pub mod Walk
