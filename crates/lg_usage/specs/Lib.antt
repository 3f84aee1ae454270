pub mod Totals
pub mod Shares
pub mod Bounds
pub mod Stored
