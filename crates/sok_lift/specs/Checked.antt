-- What is tested of numbers for two boxes and a player.
use Rattle.std.specs.Prelude.{ℕ, ◌≡◌, ◌≢◌, ◌≤◌, ◌<◌, ◌+◌, ◌⊎◌, Some, Contains, length}
use Rattle.sok_rules.specs.declared.cell.Dir.{Dir}
use Rattle.sok_board.specs.Area.{BoardView, beside, goals_of}
use Rattle.sok_distance.specs.Pushing.{IsStuck}
use Rattle.sok_lift.specs.Lifts.{Wastes}
use Rattle.sok_lift.specs.Numbers.{LiftTable, lift_in, lost}

-- a push of a box is held with another one on a square: it lowers the number by no more than so many, and boxes that are lost stay so
abbrev pub IsSpared : LiftTable → ℕ → ℕ → ℕ → ℕ → ℕ → Type 0
IsSpared t player from to waste other = to ≢ other
    → (lift_in t player from other ≤ waste + lift_in t from to other) × (lift_in t player from other ≡ lost → lift_in t from to other ≡ lost)

-- so is a push from a square along a direction, with another box on a third, and a push onto a stuck square is held anyway
abbrev pub IsHeld : BoardView → LiftTable → ℕ → ℕ → ℕ → ℕ → Type 0
IsHeld b t q x to y = IsStuck b to ⊎ ((waste : ℕ) × Wastes b x to waste × IsSpared t q x to waste y)

pub record HoldsPush (b : BoardView) (t : LiftTable) (d : Dir) (x : ℕ) : Type 0 where
  pub each : (q to y : ℕ) → q < length b.area → y < length b.area → beside b q d ≡ Some x → beside b x d ≡ Some to → IsHeld b t q x to y

-- a walk from one square to another is held with boxes on two
abbrev pub IsKept : LiftTable → ℕ → ℕ → ℕ → ℕ → Type 0
IsKept t player next x y = player ≢ x → player ≢ y → next ≢ x → next ≢ y → lift_in t player x y ≡ lift_in t next x y

-- so is each walk along a direction
pub record HoldsWalk (b : BoardView) (t : LiftTable) (d : Dir) (q : ℕ) : Type 0 where
  pub each : (r x y : ℕ) → x < length b.area → y < x → beside b q d ≡ Some r → IsKept t q r x y

-- there is none for two boxes, wherever the player stands
abbrev pub IsNone : BoardView → LiftTable → ℕ → ℕ → Type 0
IsNone b t x y = (q : ℕ) → q < length b.area → lift_in t q x y ≡ 0

-- so it is of boxes on goals
pub record HoldsSolved (b : BoardView) (t : LiftTable) : Type 0 where
  pub each : (x y : ℕ) → Contains (goals_of b) x → Contains (goals_of b) y → IsNone b t x y
