pub mod Data
pub mod Items
pub mod Derive
pub mod Members
