pub mod ByteLemmas
pub mod ByteCounts
pub mod LineLemmas
pub mod SpotLemmas
