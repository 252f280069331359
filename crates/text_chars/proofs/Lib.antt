pub mod Steps
pub mod Blocks
pub mod Walks
pub mod Bytes
