pub mod Walk
pub mod Seen
pub mod Rows
pub mod Entered
pub mod Filled
pub mod Found
pub mod Noted
