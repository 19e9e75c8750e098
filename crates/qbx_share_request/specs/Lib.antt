pub mod ShareRequest
