-- words of public contracts
pub mod Bars
pub mod Jam
pub mod Memos
pub mod Patterns
pub mod Rests
-- words of the crate's own contracts
pub mod Fair
pub mod Narrowed
pub mod Reached
pub mod Settings
