pub mod Pushing
pub mod Begins
pub mod Heads
pub mod Lasts
pub mod Owns
pub mod Fielded
pub mod Parts
pub mod Builds
