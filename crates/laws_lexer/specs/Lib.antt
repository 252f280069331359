pub mod Place
pub mod Read
pub mod Joined
