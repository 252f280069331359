pub mod Types
pub mod TypeBounds
pub mod Paths
pub mod Generics
pub mod Attributes
pub mod Visibility
pub mod Position
