pub mod MoveRequest
