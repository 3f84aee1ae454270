pub mod Sharp
pub mod Filling
pub mod Ways
pub mod Needs
pub mod Sites
pub mod Bounds
