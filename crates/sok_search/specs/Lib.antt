-- Definitions that public contracts use
pub mod Faults
pub mod Findings
pub mod Limits
pub mod Outcomes
-- Definitions for the proofs alone
pub mod Buckets
pub mod Finished
pub mod Halted
pub mod PushScratches
pub mod Searches
pub mod Steps
pub mod Views
pub mod Walkthroughs
