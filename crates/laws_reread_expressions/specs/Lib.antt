pub mod Behind
pub mod Formed
pub mod Firm
pub mod Simple
