-- What a search shows that was cut off: the least sum of depth and lower bound over its open states.
use Rattle.std.specs.Prelude.{ℕ, ◌≡◌, ◌<◌, ◌≤◌, ◌+◌, ◌⊎◌, length}
use Rattle.sok_cert.specs.Text.{number_limit}
use Rattle.sok_state.specs.declared.key.Key.{Key}
use Rattle.sok_search.specs.declared.note.Note.{Note}
use Rattle.sok_search.specs.declared.note.Standing.TheVariants.{Open}
use Rattle.sok_search.specs.Searches.{Progress, IsState}

-- an open state, whose depth and lower bound together are so many pushes
pub record IsOpenAt (p : Progress) (i n : ℕ) : Type 0 where
  pub key : Key
  pub depth : ℕ
  pub note : Note
  pub state : IsState p i key depth note
  pub bound : ℕ
  pub is_open : note.standing ≡ Open bound
  pub needs : n ≡ depth + bound

-- the least such sum over the first states, and at most what a certificate can claim
pub record IsLeastOfFirst (p : Progress) (count least : ℕ) : Type 0 where
  pub small : least ≤ number_limit
  pub below : (i n : ℕ) → i < count → IsOpenAt p i n → least ≤ n
  pub reached : (least ≡ number_limit) ⊎ ((i : ℕ) × IsOpenAt p i least)

-- over all states
abbrev pub IsLeastOpen : Progress → ℕ → Type 0
IsLeastOpen p least = IsLeastOfFirst p (length p.table) least
