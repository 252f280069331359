pub mod Sees
pub mod After
pub mod Covered
