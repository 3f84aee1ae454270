pub mod Live
pub mod Cuts
pub mod TreeCode
