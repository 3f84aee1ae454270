pub mod Words
pub mod Cuts
pub mod Tokens
pub mod Spans
pub mod Bounds
pub mod Places
pub mod Steps
pub mod Problems
