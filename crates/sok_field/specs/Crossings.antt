-- A flood over both halves of a set, which crosses the seam between them by rounds.
use Rattle.std.specs.Prelude.{ℕ, ◌≡◌, List, true, length, slice_index}
use Rattle.sok_rules.specs.declared.cell.Spot.{Spot}
use Rattle.sok_field.specs.Fields.{has}
use Rattle.sok_field.specs.Halves.{halves}
use Rattle.sok_field.specs.Rounds.{from_high, from_low, spread_beside}
use Rattle.sok_field.specs.Ways.{Joined}

-- each half after a round over both
pub record IsCrossed (free_low free_high low high new_low new_high : List ℕ) : Type 0 where
  pub whole_low : length new_low ≡ length low
  pub whole_high : length new_high ≡ length high
  pub round_low : (r : ℕ) → slice_index new_low r ≡ spread_beside (from_high (slice_index high r)) low free_low r
  pub round_high : (r : ℕ) → slice_index new_high r ≡ spread_beside (from_low (slice_index low r)) high free_high r

-- a round over both changes nothing
abbrev pub AreClosed : List ℕ → List ℕ → List ℕ → List ℕ → Type 0
AreClosed free_low free_high low high = IsCrossed free_low free_high low high low high

-- both halves during a flood: they have the square `from`, and otherwise only free squares that are joined to it
pub record IsWide (free_low free_high : List ℕ) (from : Spot) (low high : List ℕ) : Type 0 where
  pub whole_low : length low ≡ length free_low
  pub whole_high : length high ≡ length free_low
  pub begun : has (halves low high) from ≡ true
  pub inside_low : (s : Spot) → has low s ≡ true → has free_low s ≡ true
  pub inside_high : (s : Spot) → has high s ≡ true → has free_high s ≡ true
  pub sound : (s : Spot) → has (halves low high) s ≡ true → Joined (has (halves free_low free_high)) from s
