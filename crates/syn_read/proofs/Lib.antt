pub mod Wholes
pub mod Behind
pub mod Firsts
pub mod Singles
pub mod Onward
