pub mod Search
pub mod Ring
