pub mod Fronts
pub mod Puts
pub mod Places
