pub mod ShareSaid
