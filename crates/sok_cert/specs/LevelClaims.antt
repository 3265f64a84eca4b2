-- What an accepted certificate shows.
use Rattle.sok_rules.specs.Squares.{Rows}
use Rattle.sok_entry.specs.declared.claim.Claim.{Claim}

-- a level and a claim about it
pub record LevelClaim : Type 0 where
  pub rows : Rows
  pub claim : Claim
