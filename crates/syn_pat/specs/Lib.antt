pub mod Patterns
pub mod Pat
pub mod PatTypes
