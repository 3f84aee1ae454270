pub mod Tallies
pub mod Places
pub mod Printing
pub mod Seen
pub mod Agreeing
pub mod Pairs
pub mod Bounding
