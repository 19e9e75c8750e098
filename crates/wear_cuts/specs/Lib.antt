-- What one request may do.
pub mod Passes
pub mod Recovers
pub mod Puts
pub mod Counted
pub mod Events
-- the induction over histories
pub mod Theorem
-- and what it says where there is no cut
pub mod Uncut
pub mod Examples
