pub mod Watch
pub mod Answers
pub mod Watched
pub mod Bytes
pub mod Runs
