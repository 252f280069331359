pub mod Absent
pub mod Attributes
pub mod Bindings
pub mod Lone
pub mod Names
pub mod Read
