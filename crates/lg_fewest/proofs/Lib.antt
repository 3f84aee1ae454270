pub mod Leading
pub mod Sums
pub mod Lowering
pub mod Cutting
pub mod Whole
pub mod Tables
