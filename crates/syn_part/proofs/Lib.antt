pub mod Takes
pub mod Choices
pub mod Derived
pub mod Chosen
pub mod Judged
pub mod Lists
pub mod Absent
