pub mod Leaves
pub mod Chain
pub mod Many
pub mod ReadBack
