-- From bytes to views.
pub mod Predicted
pub mod Views
pub mod Held
pub mod Done
pub mod Accepted
pub mod Refusals
pub mod Allowance
pub mod Requests
pub mod TimesDone
pub mod Lengths
pub mod Format
pub mod Mounting
