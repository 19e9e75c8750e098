-- Demand 3: the statement, and its proof from the laws of views and of the image.
pub mod Demand3
pub mod Counting
pub mod Erases
pub mod Room
pub mod Stored
