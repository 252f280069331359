pub mod DataItems
pub mod Listed
pub mod ReadItems
