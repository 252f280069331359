pub mod Front
pub mod Said
pub mod Firsts
pub mod Turns
pub mod Laid
pub mod Seen
pub mod Way
pub mod Operands
