-- Definitions that public contracts use: an answer and what a writer holds after one (Written), or after one with a certificate (Certified); the answers to an
-- input (Inputs); how long it may be (Limits); and the numbers, statuses and lines of faults (Faults, FaultLines).
pub mod Certified
pub mod FaultLines
pub mod Faults
pub mod Inputs
pub mod Limits
pub mod Written
