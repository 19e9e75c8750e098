-- What tenants can rely on, and its proof.
pub mod Law
pub mod Live
pub mod Owners
pub mod Codes
pub mod Within
