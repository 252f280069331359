pub mod Shape
pub mod Leaves
pub mod Iter
pub mod Kept
pub mod Sub
pub mod Name
