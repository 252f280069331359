pub mod Changes
pub mod Parted
pub mod Peeled
pub mod Held
pub mod Separators
pub mod Marks
pub mod Frames
