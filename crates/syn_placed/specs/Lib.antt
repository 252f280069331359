pub mod Stands
pub mod Before
pub mod Shapes
pub mod Parted
pub mod Leaves
