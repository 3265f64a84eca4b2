pub mod Laying
pub mod Paths
pub mod Regions
pub mod Walks
