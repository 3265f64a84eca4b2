pub mod Drawn
pub mod Listings
pub mod Measures
pub mod OnePlay
pub mod Playing
pub mod Shown
