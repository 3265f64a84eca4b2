-- words of public contracts
pub mod Fine
pub mod Lookup
pub mod Placing
pub mod Rolls
