-- Definitions that public contracts use: the answers to a level that is to be solved, with a certificate or without.
pub mod Solves
-- definitions that the crate's own contracts use
pub mod Faults
pub mod Lines
pub mod Reports
