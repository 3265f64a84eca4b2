pub mod Lines
pub mod Solving
