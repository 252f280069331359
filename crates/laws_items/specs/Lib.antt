pub mod Raws
pub mod Visible
pub mod Readers
pub mod Begins
pub mod Apart
