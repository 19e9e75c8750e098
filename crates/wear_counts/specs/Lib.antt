-- What is counted, and the statement.
pub mod Counts
pub mod Law
-- histories on which they are computed
pub mod Short
pub mod Instances
