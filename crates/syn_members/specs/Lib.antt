pub mod Associated
pub mod Foreign
