pub mod Adding
pub mod Ending
pub mod Ids
pub mod Offering
pub mod Proving
pub mod Showing
pub mod Treating
