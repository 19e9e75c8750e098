-- What is proved of the definitions and of the statements in specs/.
pub mod Chains
pub mod Lives
pub mod Walks
pub mod Sorted
pub mod Zero
