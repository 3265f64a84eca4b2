-- Words of public contracts: what a command works on in a database (Databases), where certificates are kept (Certs), what the program does for a command line
-- (Commands), and which files and databases it may change for one (Rights).
-- For private contracts: `Letters`.
pub mod Certs
pub mod Commands
pub mod Databases
pub mod Letters
pub mod Rights
