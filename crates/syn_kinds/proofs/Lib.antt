pub mod Rows
pub mod Marks
pub mod Words
mod Firsts
