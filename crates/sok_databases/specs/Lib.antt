-- Words of public contracts: what is known of databases by their paths (Known).
pub mod Known
