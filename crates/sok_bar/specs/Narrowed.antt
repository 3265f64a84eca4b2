-- Removal of boxes that are not held from a set of squares.
use Rattle.std.specs.Prelude.{ℕ, ◌≡◌, ◌<◌, ◌≤◌, ◌↔◌, List, Bool, true, false, IsTrue, Contains, filter, length, slice_index}
use Rattle.std.specs.List.{range_with_len}
use Rattle.sok_rules.specs.declared.cell.Spot.{Spot}
use Rattle.sok_board.specs.Area.{BoardView, spot_of}
use Rattle.sok_field.specs.Fields.{has}
use Rattle.sok_price.specs.Prices.{IsMember}
use Rattle.sok_bar.specs.Jam.{IsGoalSquare, IsHeld, IsJam}
use Rattle.sok_bar.specs.Settings.{IsDrawn}

-- a set has only boxes of a list, and all boxes of each jam among them
pub record KeepsJams (b : BoardView) (boxes rows : List ℕ) : Type 0 where
  pub among : (s : ℕ) → IsDrawn b rows s → Contains boxes s
  pub most : (members : List ℕ) → IsJam b boxes members → (s : ℕ) → IsMember boxes members s → IsDrawn b rows s

-- the indices of the boxes of a list that are in a set
abbrev pub drawn_members : BoardView → List ℕ → List ℕ → List ℕ
drawn_members b boxes rows = filter (λ i. has rows (spot_of b (slice_index boxes i))) (range_with_len 0 (length boxes))

-- the number of boxes of a list that are in a set
abbrev pub drawn_of : BoardView → List ℕ → List ℕ → ℕ
drawn_of b boxes rows = length (filter (λ s. has rows (spot_of b s)) boxes)

-- a box was removed, since the boxes in the set did not hold it
pub record IsTaken (b : BoardView) (s : ℕ) (old new : List ℕ) : Type 0 where
  pub drawn : IsDrawn b old s
  pub loose : IsHeld b (IsDrawn b old) s → ⊥
  pub others : (t : Spot) → IsTrue (has new t) ↔ ((t ≡ spot_of b s → ⊥) × IsTrue (has old t))

-- a box stays since it is held, or it was not there
pub record IsLeft (b : BoardView) (s : ℕ) (old new : List ℕ) : Type 0 where
  pub same : new ≡ old
  pub held : IsDrawn b old s → IsHeld b (IsDrawn b old) s

pub record TellsTaken (b : BoardView) (s : ℕ) (old new : List ℕ) (taken : Bool) : Type 0 where
  pub gone : taken ≡ true → IsTaken b s old new
  pub left : taken ≡ false → IsLeft b s old new

-- the first `n` boxes of a list were treated so, one after another
pub record TellsPass (b : BoardView) (boxes : List ℕ) (n : ℕ) (old new : List ℕ) (taken : Bool) : Type 0 where
  pub jams : (others : List ℕ) → KeepsJams b others old → KeepsJams b others new
  pub fewer : drawn_of b boxes new ≤ drawn_of b boxes old
  pub some : taken ≡ true → drawn_of b boxes new < drawn_of b boxes old
  pub none : taken ≡ false → (new ≡ old) × ((k : ℕ) → k < n → IsDrawn b old (slice_index boxes k) → IsHeld b (IsDrawn b old) (slice_index boxes k))

-- a box is left, and each box that is left is held by those that are left
pub record IsLeftHeld (b : BoardView) (boxes : List ℕ) (s : ℕ) (rows : List ℕ) : Type 0 where
  pub drawn : IsDrawn b rows s
  pub held : (k : ℕ) → k < length boxes → IsDrawn b rows (slice_index boxes k) → IsHeld b (IsDrawn b rows) (slice_index boxes k)

-- boxes were removed until this is true, or until the box was removed
pub record IsNarrowed (b : BoardView) (boxes : List ℕ) (s : ℕ) (old new : List ℕ) (stays : Bool) : Type 0 where
  pub jams : (others : List ℕ) → KeepsJams b others old → KeepsJams b others new
  pub left : stays ≡ true → IsLeftHeld b boxes s new
  pub gone : stays ≡ false → IsDrawn b new s → ⊥

-- a box in the set stands off a goal
abbrev pub HasDrawnOffGoal : BoardView → List ℕ → List ℕ → Type 0
HasDrawnOffGoal b boxes rows = (s : ℕ) × Contains boxes s × IsDrawn b rows s × (IsGoalSquare b s → ⊥)
