pub mod Wide
pub mod Ends
pub mod Partners
pub mod Climbs
pub mod Walks
pub mod Reach
pub mod Narrowed
pub mod Rounds
