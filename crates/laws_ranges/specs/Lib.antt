pub mod Shelled
pub mod Opens
