pub mod Tokens
pub mod Among
pub mod Marks
pub mod Groups
pub mod Nested
pub mod Texts
pub mod Such
