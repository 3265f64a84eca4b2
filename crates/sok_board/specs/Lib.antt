-- definitions that public contracts use
pub mod Area
pub mod BoxSets
pub mod Confined
pub mod Faults
pub mod Graphs
pub mod Limits
pub mod Refusals
pub mod Spans
-- definitions for the proofs alone: what a board stores of a level, and the search that finds its area
pub mod Boards
pub mod Floors
pub mod Neighbours
pub mod Searches
pub mod Tables
