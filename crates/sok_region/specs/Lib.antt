-- Words of public contracts
pub mod Layouts
pub mod Regions
pub mod States
-- Words of the proofs alone
pub mod Paths
