-- Definitions that public contracts use: which lines of a text are nearly board lines (NearLines), and which of them a scan has found (Scans).
pub mod NearLines
pub mod Scans
