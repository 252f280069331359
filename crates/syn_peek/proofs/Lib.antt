mod Rows
pub mod Shorter
