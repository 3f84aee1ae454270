pub mod Texts
pub mod Replies
pub mod Pieces
pub mod Shown
pub mod Diagrams
pub mod Pages
pub mod Seen
pub mod Painted
