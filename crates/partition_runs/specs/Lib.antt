-- The statements, and their proofs.
pub mod Law
pub mod Rotation
pub mod Effects
pub mod Values
