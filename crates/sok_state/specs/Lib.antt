-- Words of public contracts
pub mod Keys
pub mod Normalizers
pub mod Pushes
pub mod Tables
-- Words of the proofs alone
pub mod Around
pub mod Listing
pub mod PackedKeys
pub mod PackedLaws
pub mod Stores
