pub mod Begins
pub mod Heads
pub mod Behind
pub mod Facts
pub mod Ropes
pub mod Kept
pub mod Found
pub mod Asked
