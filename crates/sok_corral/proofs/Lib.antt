pub mod Corrals
pub mod Fences
pub mod Jamming
pub mod Keeping
pub mod Laying
pub mod Shutting
