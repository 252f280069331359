pub mod TypeForms
pub mod Counts
