-- The keys that packed keys represent.
use Rattle.std.specs.Prelude.{ℕ, ◌≡◌, ◌<◌, ◌≤◌, ◌*◌, ◌^◌, List, [], ◌∷◌, ◌==◌, ◌&&◌, not, filter, Some, All, length, slice_get, slice_index}
use Rattle.std.specs.List.Sorted.{IsStrictlyIncreasing}
use Rattle.sok_board.specs.Limits.{box_limit, square_limit}
use Rattle.sok_region.specs.Regions.{squares_of}
use Rattle.sok_state.specs.declared.key.Key.{Key}
use Rattle.sok_state.specs.declared.bit_key.BitKey.{BitKey}
use Rattle.sok_state.specs.declared.list_key.ListKey.{ListKey}
use Rattle.sok_state.specs.Tables.{Entries}

-- the key that a key in bits represents
abbrev pub bit_state : {N : ℕ} → BitKey N → Key
bit_state packed = record { boxes = squares_of packed.boxes; least = packed.least }

-- at most 64 words, each of 64 bits
pub record IsOfWords (N : ℕ) (key : BitKey N) : Type 0 where
  pub small : N ≤ 64
  pub long : length key.boxes ≡ N
  pub fits : (r : ℕ) → slice_index key.boxes r < 2 ^ 64

-- there is a bit for each square of a key's boxes
pub record TakesBits (N : ℕ) (key : Key) : Type 0 where
  pub small : N ≤ 64
  pub room : All (λ square. square < 64 * N) key.boxes

-- there is a bit for both squares of a push
pub record TakesBitsMove (N from to : ℕ) : Type 0 where
  pub from_fits : from < 64 * N
  pub to_fits : to < 64 * N

-- the greatest number of boxes of a key that is a list
abbrev pub list_limit : ℕ
list_limit = 16

-- the key that a list represents
abbrev pub list_state : ListKey → Key
list_state packed = record { boxes = packed.boxes.items; least = packed.least }

-- the boxes stand on squares of a board, and are few enough for a list
pub record TakesList (key : Key) : Type 0 where
  pub few : length key.boxes ≤ list_limit
  pub room : All (λ square. square < square_limit) key.boxes

-- a list that represents such a key, in ascending order
pub record IsShortList (key : ListKey) : Type 0 where
  pub taken : TakesList (list_state key)
  pub rising : IsStrictlyIncreasing key.boxes.items

-- the boxes on neither square of a push
abbrev pub apart : ℕ → ℕ → List ℕ → List ℕ
apart from to boxes = filter (λ s. not (s == from) && not (s == to)) boxes

-- after the push there are few enough boxes, too
pub record TakesListMove (key : Key) (from to : ℕ) : Type 0 where
  pub few : length (apart from to key.boxes) < list_limit
  pub room : to < square_limit

-- keys in their order, each with its depth
abbrev pub entries_of : {K : Type 0} → (K → Key) → List K → List ℕ → Entries
entries_of state_of [] depths = []
entries_of state_of (key ∷ keys) [] = []
entries_of state_of (key ∷ keys) (depth ∷ depths) = (state_of key, depth) ∷ entries_of state_of keys depths

-- keys with their depths, and how many more fit before memory is allocated
pub record Stored : Type 0 where
  pub entries : Entries
  pub spare : ℕ

-- each key has a depth, satisfies the invariant of its form, and has no more boxes than a board may have
pub record ArePacked {K : Type 0} (state_of : K → Key) (fits : K → Type 0) (keys : List K) (depths : List ℕ) : Type 0 where
  pub a_depth_each : length depths ≡ length keys
  pub fit : (i : ℕ) (key : K) → slice_get keys i ≡ Some key → fits key
  pub few : (i : ℕ) (key : K) → slice_get keys i ≡ Some key → length (state_of key).boxes ≤ box_limit
