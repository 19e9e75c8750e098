-- What is proved of the definitions and of the statements in specs/.
pub mod Candidates
pub mod Highest
pub mod Shown
pub mod Lines
pub mod Histories
pub mod Rebuilt
