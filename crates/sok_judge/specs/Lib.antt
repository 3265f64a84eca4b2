-- Definitions that public contracts use: the answer for what a certificate proves (Verdicts), which level has a board (Boards), and the answers to a
-- certificate (Checks).
-- Definitions that the crate's own contracts use: a certificate that was read to its end (Streams).
pub mod Boards
pub mod Checks
pub mod Streams
pub mod Verdicts
