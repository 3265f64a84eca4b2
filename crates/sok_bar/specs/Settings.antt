-- What tests of boxes are given: boxes on squares of a board, and which of them may hold others.
use Rattle.std.specs.Prelude.{ℕ, ◌<◌, ◌≤◌, List, IsTrue, All, Contains, length}
use Rattle.std.specs.List.Sorted.{IsStrictlyIncreasing}
use Rattle.sok_board.specs.Area.{BoardView, spot_of}
use Rattle.sok_board.specs.Limits.{box_limit}
use Rattle.sok_field.specs.Fields.{has}
use Rattle.sok_price.specs.Prices.{AreMembers, IsMember}
use Rattle.sok_bar.specs.declared.held.Holders.{Holders}
use Rattle.sok_bar.specs.declared.held.Holders.TheVariants.{Every, Members, Drawn}

-- boxes on squares of a board
pub record AreBoxesOn (b : BoardView) (boxes : List ℕ) : Type 0 where
  pub exist : All (λ square. square < length b.area) boxes
  pub rising : IsStrictlyIncreasing boxes
  pub few : length boxes ≤ box_limit

-- a square of the area that is in a set
abbrev pub IsDrawn : BoardView → List ℕ → ℕ → Type 0
IsDrawn b rows s = (s < length b.area) × IsTrue (has rows (spot_of b s))

-- a square with a box that may hold others
abbrev pub IsHolder : BoardView → List ℕ → Holders → ℕ → Type 0
IsHolder b boxes Every = Contains boxes
IsHolder b boxes (Members members) = IsMember boxes members.now
IsHolder b boxes (Drawn squares) = IsDrawn b squares.now

abbrev pub AreHolders : List ℕ → Holders → Type 0
AreHolders boxes Every = Unit {0}
AreHolders boxes (Members members) = AreMembers boxes members.now
AreHolders boxes (Drawn squares) = Unit {0}
