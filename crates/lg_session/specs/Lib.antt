pub mod Engines
pub mod Legal
pub mod Rows
pub mod Keepers
pub mod Paths
pub mod Turns
pub mod Learning
pub mod Answering
