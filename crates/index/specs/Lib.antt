pub mod Shows
pub mod Lines
pub mod Tables
