-- Pairs of boxes that are free to be taken.
use Rattle.std.specs.Prelude.{ℕ, ◌≡◌, ◌≢◌, ◌≤◌, ◌<◌, List, Bool, Contains, true, false, slice_index, slice_index_or}
use Rattle.sok_lift.specs.Numbers.{LiftTable, lift_in, lost}

-- a box is free, by its place
abbrev pub IsFree : List Bool → ℕ → Type 0
IsFree free place = slice_index_or free place false ≡ true

-- two boxes by their places, of which neither is taken
pub record AreFree (free : List Bool) (one other : ℕ) : Type 0 where
  pub one_free : IsFree free one
  pub other_free : IsFree free other
  pub apart : one ≢ other

-- the number for two boxes, by their places
abbrev pub number_at : LiftTable → ℕ → List ℕ → ℕ → ℕ → ℕ
number_at t player boxes one other = lift_in t player (slice_index boxes one) (slice_index boxes other)

-- a free box before another one, and their lift
pub record IsPartner (t : LiftTable) (player : ℕ) (boxes : List ℕ) (free : List Bool) (one other lift : ℕ) : Type 0 where
  pub before : other < one
  pub is_free : IsFree free other
  pub is : lift ≡ number_at t player boxes one other
  pub small : lift ≤ lost

-- no free box of the first ones has a greater lift with this box
abbrev pub IsMost : LiftTable → ℕ → List ℕ → List Bool → ℕ → ℕ → ℕ → Type 0
IsMost t player boxes free one most end = (other : ℕ) → other < end → IsFree free other → number_at t player boxes one other ≤ most

-- a box on one square and another one of these, but that on the square left behind, are lost
pub record HasLostPair (t : LiftTable) (player : ℕ) (boxes : List ℕ) (from to : ℕ) : Type 0 where
  pub other : ℕ
  pub there : Contains boxes other
  pub stays : other ≢ from
  pub number : lift_in t player to other ≡ lost
