-- What is proved of the definitions and of the statements in specs/.
pub mod Boards
pub mod Buffers
pub mod Given
pub mod Ring
pub mod Facts
