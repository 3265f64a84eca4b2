-- Definitions that public contracts use: `Faults`, `Levels`, `Limits`, `Play`, `Replay`, `Session`, `Squares`, `States`.
-- Definitions for the proofs alone: `Kept` (what a session stores in addition to its letters) and `Scene` (the cells during play).
pub mod Faults
pub mod Kept
pub mod Levels
pub mod Limits
pub mod Play
pub mod Replay
pub mod Scene
pub mod Session
pub mod Squares
pub mod States
