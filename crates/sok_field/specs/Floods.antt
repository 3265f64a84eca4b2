-- A flood in progress: it has the squares of a start, and otherwise only free squares that are joined to these.
use Rattle.std.specs.Prelude.{ℕ, ◌≡◌, List, Bool, true, length, slice_index, bit_and}
use Rattle.sok_rules.specs.declared.cell.Spot.{Spot}
use Rattle.sok_field.specs.Fields.{has}
use Rattle.sok_field.specs.Ways.{Joined}

-- a square that is joined to a square of a start
abbrev pub Reaches : List ℕ → (Spot → Bool) → Spot → Type 0
Reaches free start s = (t : Spot) × (start t ≡ true) × Joined (has free) t s

pub record IsSpreading (free : List ℕ) (start : Spot → Bool) (seen : List ℕ) : Type 0 where
  pub whole : length seen ≡ length free
  pub begun : (s : Spot) → start s ≡ true → has seen s ≡ true
  pub inside : (r : ℕ) → bit_and (slice_index seen r) (slice_index free r) ≡ slice_index seen r
  pub sound : (s : Spot) → has seen s ≡ true → Reaches free start s
