-- words of public contracts
pub mod Acts
pub mod Sketches
