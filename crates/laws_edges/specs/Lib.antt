pub mod Classes
pub mod Edges
pub mod Binds
pub mod Parts
