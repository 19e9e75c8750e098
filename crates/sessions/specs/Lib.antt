-- The statements, and their proofs.
pub mod Law
