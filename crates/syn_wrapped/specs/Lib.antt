pub mod Types
pub mod Patterns
pub mod Statements
pub mod Among
pub mod Members
