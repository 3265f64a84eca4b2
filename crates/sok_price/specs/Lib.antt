-- Words of public contracts
pub mod Laws
pub mod Limits
pub mod Matched
pub mod Matches
pub mod Prices
-- Words of the proofs alone
pub mod Costs
pub mod Exchanges
pub mod Kept
pub mod Matchings
pub mod Searches
pub mod Slacks
pub mod Trees
