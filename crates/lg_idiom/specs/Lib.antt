pub mod Idioms
pub mod Steps
pub mod Kept
pub mod Takings
pub mod Sentences
pub mod Wholes
pub mod Overlays
