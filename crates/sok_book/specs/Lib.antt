-- Definitions that public contracts use.
pub mod BookTexts
pub mod Books
pub mod Commands
pub mod Escapes
pub mod Exported
pub mod Faults
pub mod Kept
pub mod Laws
pub mod Outcomes
pub mod Overview
pub mod Records
pub mod Refusals
pub mod Shown
pub mod Texts
pub mod Titles
