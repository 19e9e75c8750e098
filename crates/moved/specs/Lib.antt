-- The statements, what holds of any fresh image that is built from a table, and the proofs.
pub mod Law
pub mod Built
