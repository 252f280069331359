pub mod Bare
pub mod Written
pub mod Meets
pub mod Spelled
