pub mod Labels
pub mod Picked
pub mod Domains
pub mod Reach
pub mod Steps
pub mod Breaks
pub mod Judging
