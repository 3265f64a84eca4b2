pub mod Answering
pub mod Certifying
pub mod Unique
pub mod Writes
