pub mod Written
pub mod Sound
pub mod Complete
pub mod Fronts
pub mod First
pub mod Tokens
pub mod Texts
pub mod Turns
