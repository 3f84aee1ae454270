pub mod Fits
pub mod Walks
pub mod Elements
pub mod Glue
pub mod Joints
pub mod Parts
pub mod Sides
pub mod Region
pub mod Unique
pub mod Empty
pub mod Counts
pub mod Whole
pub mod Assemble
pub mod Valid
pub mod Begin
pub mod Made
pub mod Parting
pub mod Numbers
pub mod Ends
pub mod Keeping
pub mod Firsts
pub mod Admitting
pub mod Growing
pub mod Once
pub mod Going
pub mod Splitting
mod Grouped
mod Opened
pub mod Expanding
pub mod Keeps
pub mod SmallFits
pub mod Chaining
pub mod Alike
mod Lasts
mod Tabled
