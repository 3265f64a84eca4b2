pub mod Checking
pub mod OneBoard
pub mod OneCheck
pub mod Streaming
