-- Definitions that public contracts use: a book as rows (`Rows`, `BadRows`, `Laws`, `Faults`), and its calls (`Calls`, `Verdicts`, `Standing`, `Opening`,
-- `Histories`). For proofs only: `Changing`, `Parsing`, `ReadRows`, `Readable`, `Running`.
pub mod BadRows
pub mod Calls
pub mod Changing
pub mod Faults
pub mod Histories
pub mod Laws
pub mod Opening
pub mod Parsing
pub mod ReadRows
pub mod Readable
pub mod Rows
pub mod Running
pub mod Standing
pub mod Verdicts
