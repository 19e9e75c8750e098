pub mod Survey
pub mod Look
