pub mod Shapes
pub mod FormCases
pub mod OffKinds
pub mod Elements
pub mod Ends
pub mod UseRoots
