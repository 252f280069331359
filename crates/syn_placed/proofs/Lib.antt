pub mod Cuts
pub mod Shapes
pub mod Sought
pub mod Lists
pub mod Sizes
pub mod Places
