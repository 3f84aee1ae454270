pub mod Statements
pub mod Words
pub mod Reading
pub mod Automaton
pub mod View
