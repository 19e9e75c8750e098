-- The statement, and what a put and a recovery do to the top; the induction over histories.
pub mod Law
