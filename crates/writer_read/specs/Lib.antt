pub mod Chains
pub mod Formed
