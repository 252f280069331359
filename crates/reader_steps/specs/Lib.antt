pub mod Answers
pub mod Around
pub mod Operands
pub mod Pending
pub mod Places
