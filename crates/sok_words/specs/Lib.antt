-- Words of the public contract: the command lines that are specified, and the answers to them (Forms). The rest is for private contracts: the command as it is
-- built (Shapes), and the values that it finds in such a line (Rows).
pub mod Forms
pub mod Rows
pub mod Shapes
