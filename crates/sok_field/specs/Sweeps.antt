-- Sweeps: a flood that proceeds row by row.
use Rattle.std.specs.Prelude.{ℕ, ◌≡◌, ◌<◌, ◌≤◌, List, Bool, true, length, slice_index, slice_set}
use Rattle.std.specs.List.{sum}
use Rattle.sok_rules.specs.declared.cell.Spot.{Spot}
use Rattle.sok_field.specs.Floods.{IsSpreading}

-- a word that may replace some seeds in a row of any flood over these free squares
pub record IsStepped (free seeds word : ℕ) : Type 0 where
  pub rises : seeds ≤ word
  pub follows : (frees seen : List ℕ) (start : Spot → Bool) (r : ℕ) → r < length seen → slice_index frees r ≡ free → IsSpreading frees start (slice_set seen r seeds)
      → IsSpreading frees start (slice_set seen r word)

-- a flood that has proceeded; if `grew` is true, it has more squares
pub record GoesOn (free : List ℕ) (start : Spot → Bool) (old new : List ℕ) (grew : Bool) : Type 0 where
  pub flooding : IsSpreading free start new
  pub rises : sum old ≤ sum new
  pub more : grew ≡ true → sum old < sum new
