-- Definitions that public contracts use: `Canonical`, `Characters`, `Collections`, `Counts`, `Kinds`, `Lurd`, `Marked`, `Packed`, `Plain`, `Titles`, `Xsb`,
-- and from `Lines` `first_line`, `after_line`, `IsUnended` and `IsCutAtEnd`.
-- Definitions for the proofs alone: `Like`, and the rest of `Lines`, such as which part of a text is skipped.
pub mod Canonical
pub mod Characters
pub mod Collections
pub mod Counts
pub mod Kinds
pub mod Like
pub mod Lines
pub mod Lurd
pub mod Marked
pub mod Packed
pub mod Plain
pub mod Titles
pub mod Xsb
