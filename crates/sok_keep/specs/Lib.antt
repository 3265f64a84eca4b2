-- Definitions that public contracts use: how the connection is treated (Causes); and the answers, and the book after them, when levels are added (Adds),
-- solutions offered (Offers), verdicts proved (Proves), and pages shown (Shows). For proofs only: `Adding`.
pub mod Adding
pub mod Adds
pub mod Causes
pub mod Offers
pub mod Proves
pub mod Shows
