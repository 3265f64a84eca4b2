-- definitions that public contracts use
pub mod Distances
pub mod Pushes
pub mod Pushing
-- definitions for the proofs alone: pushes in reverse as a graph
pub mod Pulls
