pub mod Asked
pub mod Closing
pub mod Last
pub mod Verdict
