-- Words of public contracts
pub mod Fields
pub mod Halves
pub mod Numbers
pub mod Rounds
pub mod Trails
pub mod Ways
-- Words of the proofs alone
pub mod Crossings
pub mod Floods
pub mod Spans
pub mod Sweeps
