-- Definitions that public contracts use
pub mod Corrals
pub mod Fences
pub mod Fencing
