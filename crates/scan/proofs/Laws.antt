pub mod Surveys
pub mod Told
