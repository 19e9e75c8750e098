pub mod Account
pub mod Map
pub mod Boards
