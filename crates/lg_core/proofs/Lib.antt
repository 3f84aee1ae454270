pub mod Notes
pub mod Legal
pub mod EveryRun
pub mod NextCommand
pub mod Outcomes
pub mod Cores
pub mod Named
pub mod Looks
