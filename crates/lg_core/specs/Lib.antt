pub mod Core
pub mod Lawful
pub mod Steps
