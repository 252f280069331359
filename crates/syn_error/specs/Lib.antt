pub mod Front
pub mod Tokens
pub mod Notes
pub mod Messages
pub mod Faults
pub mod Left
