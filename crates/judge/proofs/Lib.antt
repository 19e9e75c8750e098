-- What is proved of the definitions and of the statements in specs/.
pub mod TallyLaws
pub mod VerdictLaws
