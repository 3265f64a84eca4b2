-- A table of states: distinct keys with depths, in the order of their insertion.
use Rattle.std.specs.Prelude.{ℕ, ◌≡◌, ◌≢◌, ◌<◌, ◌↔◌, List, [], ◌∷◌, ◌++◌, Some, Bool, IsTrue, if◌then◌else◌, AllPairs, Contains, length, slice_get}
use Rattle.std.specs.Prelude.{slice_set, slice_index, MatchBool}
use Rattle.std.specs.Map.{keys_of, values_of}
use Rattle.std.specs.List.Sorted.{IsStrictlyIncreasing}
use Rattle.sok_board.specs.BoxSets.{IsMoved}
use Rattle.sok_state.specs.declared.key.Key.{Key}

abbrev pub Entries : Type 0
Entries = List (Key × ℕ)

-- The keys of a table with their depths. Its room: keys whose boxes stand on squares below it can be inserted. Its spare places: how many more keys fit before
-- it allocates.
pub record Tabled : Type 0 where
  pub entries : Entries
  pub room : ℕ
  pub spare : ℕ

-- no key has two indices
abbrev pub HasDistinctKeys : Entries → Type 0
HasDistinctKeys entries = AllPairs (λ key other. key ≢ other) (keys_of entries)

-- the key at an index
abbrev pub IsAt : Entries → Key → ℕ → Type 0
IsAt entries key index = slice_get (keys_of entries) index ≡ Some key

-- the depth of the key at an index
abbrev pub depth_at : Entries → ℕ → ℕ
depth_at entries index = slice_index (values_of entries) index

-- a key that is present keeps its index and depth
pub record Stays (old : Entries) (key : Key) (index : ℕ) (new : Entries) : Type 0 where
  pub there : IsAt old key index
  pub unchanged : new ≡ old

-- a new key goes last, with its depth
pub record GoesLast (old : Entries) (key : Key) (depth index : ℕ) (new : Entries) : Type 0 where
  pub absent : Contains (keys_of old) key → ⊥
  pub last : index ≡ length old
  pub more : new ≡ old ++ (key, depth) ∷ []

-- the result of an insertion, which reports whether the key is new
abbrev pub Enters : Entries → Key → ℕ → ℕ → Bool → Entries → Type 0
Enters old key depth index is_new new = MatchBool is_new (GoesLast old key depth index new) (Stays old key index new)

-- the key after one of a key's boxes was moved, with the least square that the player can walk to then
pub record IsNext (key : Key) (from to least : ℕ) (next : Key) : Type 0 where
  pub moved : IsMoved key.boxes from to next.boxes
  pub rising : IsStrictlyIncreasing next.boxes
  pub least_is : next.least ≡ least

-- the result of inserting the key after a push from the key at an index
pub record EntersNext (old : Entries) (index from to least depth at : ℕ) (is_new : Bool) (new : Entries) : Type 0 where
  pub enters : (key next : Key) → IsAt old key index → IsNext key from to least next → Enters old next depth at is_new new

-- the key after a push from the key at an index is present, at the index `at`
pub record HasNext (old : Entries) (index from to least at : ℕ) : Type 0 where
  pub there : (key next : Key) → IsAt old key index → IsNext key from to least next → IsAt old next at

-- the key after a push from the key at an index is not present
pub record LacksNext (old : Entries) (index from to least : ℕ) : Type 0 where
  pub absent : (key next : Key) → IsAt old key index → IsNext key from to least next → Contains (keys_of old) next → ⊥

-- a smaller depth replaces the one at an index, and the keys stay
pub record Lowers (old : Entries) (index depth : ℕ) (lowered : Bool) (new : Entries) : Type 0 where
  pub smaller : IsTrue lowered ↔ (depth < depth_at old index)
  pub keys : keys_of new ≡ keys_of old
  pub depths : values_of new ≡ (if lowered then slice_set (values_of old) index depth else values_of old)
