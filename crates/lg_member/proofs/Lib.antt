pub mod Keeping
pub mod Adding
pub mod Outlining
pub mod Written
pub mod Using
pub mod Same
pub mod Celling
pub mod Linked
