-- words of public contracts
pub mod Finding
pub mod GivenUp
pub mod Losses
-- words of the crate's own contracts
pub mod Asking
pub mod Judging
pub mod Known
pub mod Meeting
pub mod Workspace
