pub mod Spans
pub mod Least
pub mod Hashed
