pub mod Pieces
pub mod Size
pub mod Forms
pub mod Falls
pub mod Shapes
