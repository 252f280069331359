pub mod Adding
pub mod Alike
pub mod Behind
pub mod BothLent
pub mod EachOf
pub mod Inserts
pub mod Kept
pub mod KeptPairs
pub mod Puts
mod ReadPairs
mod Turns
