pub mod Writing
pub mod LastSteps
pub mod Put
