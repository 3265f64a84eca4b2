-- Some boxes of a list of boxes.
use Rattle.std.specs.Prelude.{ℕ, ◌≡◌, List}
use Rattle.sok_bar.specs.Patterns.{squares_at}
use Rattle.sok_price.specs.Prices.{AreMembers}

-- indices of the boxes on these squares
pub record AreMembersAt (boxes squares members : List ℕ) : Type 0 where
  pub listed : AreMembers boxes members
  pub squares_are : squares_at boxes members ≡ squares
