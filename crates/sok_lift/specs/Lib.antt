-- Definitions that public contracts use: `Lifts`, `Numbers`, `Pairs`.
-- Definitions for the proofs alone: `Checked` (what the test of a table finds).
pub mod Checked
pub mod Lifts
pub mod Numbers
pub mod Pairs
