pub mod Sorts
pub mod Lefts
pub mod Pointwise
pub mod Sizes
pub mod Texts
