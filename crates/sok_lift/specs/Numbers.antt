-- Numbers for two boxes and a player, as they are kept.
use Rattle.std.specs.Prelude.{ℕ, ◌≤◌, ◌+◌, ◌*◌, ◌/◌, List, Option, IfSome, IsSomeAnd, if◌then◌else◌, nat_lt, slice_index_or, ◌==◌}
use Rattle.sok_board.specs.Area.{BoardView}
use Rattle.sok_lift.specs.Lifts.{IsLift}

-- how many squares there are, and numbers, pair of boxes by pair and square of the player by square
pub record LiftTable : Type 0 where
  pub squares : ℕ
  pub numbers : List ℕ

-- how many pairs of squares there are, equal ones included
abbrev pub pairs_in : ℕ → ℕ
pairs_in squares = (squares * squares + squares) / 2

-- where the number is kept for a player and two boxes, the lower square of these first
abbrev pub place_in : ℕ → ℕ → ℕ → ℕ → ℕ
place_in squares player low high = player * pairs_in squares + (high * high + high) / 2 + low

-- the number that is kept there, and 0 past the end
unfoldable pub entry_in : LiftTable → ℕ → ℕ → ℕ → ℕ
entry_in t player low high = slice_index_or t.numbers (place_in t.squares player low high) 0

-- the number for a player and two boxes, whichever is named first
unfoldable pub lift_in : LiftTable → ℕ → ℕ → ℕ → ℕ
lift_in t player one other = if nat_lt one other then entry_in t player one other else entry_in t player other one

-- the number of two boxes that are lost
abbrev pub lost : ℕ
lost = 255

-- a number, or so many more where boxes are lost
unfoldable pub beyond : ℕ → ℕ → ℕ
beyond more number = if number == lost then lost + more else number

abbrev pub lift_beyond : LiftTable → ℕ → ℕ → ℕ → ℕ → ℕ
lift_beyond t more player one other = beyond more (lift_in t player one other)

-- the numbers are a lift, and so they are with as many more as are asked for where boxes are lost
pub record AreLifts (b : BoardView) (t : LiftTable) : Type 0 where
  pub is : IsLift b (lift_in t)
  pub beyond : (more : ℕ) → IsLift b (lift_beyond t more)

-- a distance falls by at most one, less so many
abbrev pub SparesAt : Option ℕ → Option ℕ → ℕ → Type 0
SparesAt before after spare = IfSome after (λ n. IsSomeAnd before (λ m. m + spare ≤ n + 1))
