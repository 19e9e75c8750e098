pub mod Asking
pub mod Answering
