-- Words of public contracts: how the program ends (Endings), what is known of its files (Files), and what is written when a level is solved (Solving).
pub mod Endings
pub mod Files
pub mod Solving
