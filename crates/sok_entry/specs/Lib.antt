-- words of public contracts
pub mod Faults
pub mod Known
pub mod Reading
pub mod Stages
pub mod Text
-- words of the crate's own contracts
pub mod Entries
pub mod Fronts
pub mod Inside
