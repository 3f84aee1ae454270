pub mod Problems
pub mod Candidates
pub mod Idioms
pub mod Pages
pub mod Searches
pub mod Steps
pub mod Wide
pub mod Alive
