-- Definitions that public contracts use.
pub mod Leaves
pub mod Connections
pub mod Causes
pub mod Statements
