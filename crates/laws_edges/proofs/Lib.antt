pub mod Classes
pub mod Edges
pub mod Parts
pub mod Examples
