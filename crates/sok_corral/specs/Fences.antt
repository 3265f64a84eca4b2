-- Fences, by the numbers of squares.
use Rattle.std.specs.Prelude.{ℕ, ◌≡◌, ◌<◌, ◌⊎◌, List, Some, false, Contains, length}
use Rattle.sok_rules.specs.declared.cell.Dir.{Dir}
use Rattle.sok_corral.specs.Corrals.{IsHopeless, WalksTo}
use Rattle.sok_rules.specs.Squares.{holds, is_goal}
use Rattle.sok_rules.specs.States.{Same}
use Rattle.sok_board.specs.Area.{BoardView, beside, position_of, spot_of}

-- the player could walk there if only the fence's boxes were on the board
abbrev pub Roams : BoardView → ℕ → List ℕ → ℕ → Type 0
Roams b player fence s = Same b.rows (position_of b player fence) (position_of b s fence)

-- a box that stays as long as no box of the fence is pushed: it is in the fence, or the player can't come to it
pub record StaysAt (b : BoardView) (player : ℕ) (boxes fence : List ℕ) (s : ℕ) : Type 0 where
  pub box : Contains boxes s
  pub kept : Contains fence s ⊎ (Roams b player fence s → ⊥)

-- a push that can be made now, after a walk, and takes its box to a square to which the player could not walk
pub record IsInward (b : BoardView) (player : ℕ) (boxes fence : List ℕ) (man to : ℕ) : Type 0 where
  pub inward : Roams b player fence to → ⊥
  pub free : Contains boxes to → ⊥
  pub walk : Same b.rows (position_of b player boxes) (position_of b man boxes)

-- after this push there is no solution, wherever the boxes are that do not stay
abbrev pub NeverAfter : BoardView → ℕ → List ℕ → List ℕ → ℕ → ℕ → ℕ → Type 0
NeverAfter b player boxes fence man from to =
    IsHopeless b.rows (position_of b player boxes) (position_of b player fence).boxes
    (WalksTo b.rows (position_of b player boxes) (position_of b player fence).boxes) (spot_of b man) (spot_of b from) (spot_of b to)

-- Boxes are a fence: each push of one of them, from a square to which the player could walk if there were no others, is blocked by a box that stays, can be
-- made now, or leads to no solution. And some box that stays is off a goal.
pub record IsFence (b : BoardView) (player : ℕ) (boxes fence : List ℕ) : Type 0 where
  pub among : (n : ℕ) → Contains fence n → Contains boxes n
  pub pushed : (d : Dir) (man from to : ℕ) → man < length b.area → Roams b player fence man → beside b man d ≡ Some from → Contains fence from
      → beside b from d ≡ Some to
      → StaysAt b player boxes fence to ⊎ (IsInward b player boxes fence man to ⊎ NeverAfter b player boxes fence man from to)
  pub astray : (s : ℕ) × StaysAt b player boxes fence s × (holds is_goal b.rows (spot_of b s) ≡ false)
