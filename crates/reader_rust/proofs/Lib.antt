pub mod Behind
pub mod Counts
pub mod Ahead
pub mod Listed
