pub mod Program
pub mod Faults
pub mod Joined
pub mod Stands
