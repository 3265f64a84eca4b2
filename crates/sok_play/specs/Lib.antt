-- Definitions that public contracts use: the answers to a text that is played (Plays), the drawing of a level after it (Drawings), and the line for each level
-- of a collection (Listing).
pub mod Drawings
pub mod Listing
pub mod Plays
