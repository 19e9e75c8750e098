-- Laws of views.
pub mod Slots
pub mod Places
pub mod Shape
pub mod Room
pub mod Times
pub mod Requests
pub mod Entries
pub mod EntriesAfter
