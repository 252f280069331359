pub mod Places
pub mod Chars
