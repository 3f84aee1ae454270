pub mod Elements
pub mod Chosen
pub mod Tables
pub mod Settling
pub mod Supporting
pub mod Pruned
