pub mod Laid
pub mod AllSeen
pub mod Putting
mod Unsigned
mod Standing
mod Skipping
pub mod Past
mod OneGroup
