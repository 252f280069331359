pub mod Parsed
pub mod Reading
pub mod Streams
pub mod Optional
pub mod Texts
pub mod Single
