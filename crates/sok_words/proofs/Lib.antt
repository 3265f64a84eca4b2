pub mod Building
pub mod Forms
pub mod Getters
pub mod Lines
pub mod WordSteps
