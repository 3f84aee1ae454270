pub mod Bounds
pub mod Accepted
