pub mod Forms
pub mod Seqs
