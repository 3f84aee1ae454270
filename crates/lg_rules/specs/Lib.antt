pub mod Places
pub mod Least
pub mod Verdicts
pub mod Checks
pub mod Partners
pub mod Prunes
pub mod Steps
