-- The proofs of this crate.
pub mod Retries
pub mod Fronts
pub mod Runs
