pub mod Spelling
pub mod Spots
pub mod Exports
pub mod Levels
pub mod Exportable
pub mod ReadBack
pub mod Read
