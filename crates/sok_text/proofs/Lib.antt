pub mod Blocks
pub mod Canonical
pub mod Cutting
pub mod Letters
pub mod Filling
pub mod Like
pub mod Lines
pub mod Marked
pub mod Marks
pub mod Plain
pub mod Rows
pub mod Runs
pub mod Titles
pub mod Tokens
pub mod Unpacking
mod Worked
