pub mod Parts
pub mod Words
pub mod Grammar
pub mod Reading
pub mod Automaton
pub mod Classes
pub mod View
pub mod Fits
