pub mod Table
pub mod Stands
pub mod Values
pub mod Symbols
