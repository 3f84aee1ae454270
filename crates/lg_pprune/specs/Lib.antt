pub mod Alive
pub mod Sites
pub mod Supports
