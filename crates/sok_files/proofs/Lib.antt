pub mod Filing
pub mod Telling
