-- Lists of inner positions that were read before, each with its lines.
use Rattle.std.specs.Prelude.{ℕ, ◌≡◌, ◌≤◌, ◌<◌, ◌+◌, List, [], ◌∷◌, ◌++◌, All, Contains, length, map, sum_by}
use Rattle.sok_entry.specs.declared.entry.Inner.{Inner}
use Rattle.sok_entry.specs.declared.known.KnownList.{KnownList}
use Rattle.sok_entry.specs.Text.{inner_text, FitsInner}

-- the limits: the number of lists, and the bytes of all their lines together
abbrev pub list_limit : ℕ
list_limit = 256

abbrev pub byte_limit : ℕ
byte_limit = 4194304

-- the list has lines, and they are kept
pub record IsKept (known : KnownList) : Type 0 where
  pub fits : All FitsInner known.inner
  pub lines : known.lines.items ≡ inner_text known.inner

abbrev pub positions_of : List KnownList → List (List Inner)
positions_of lists = map (λ (known : KnownList). known.inner) lists

-- the number of bytes of all lines
abbrev pub byte_count : List (List Inner) → ℕ
byte_count lists = sum_by (λ inner. length (inner_text inner)) lists

-- each list is kept with its lines, and there is room for this many more bytes
pub record AreKept (lists : List KnownList) (left : ℕ) : Type 0 where
  pub each : All IsKept lists
  pub room : byte_count (positions_of lists) + left ≡ byte_limit

-- a known list of `count` positions: the text begins with its lines, and this follows them
pub record IsAtFront (lists : List (List Inner)) (text : List ℕ) (count : ℕ) (inner : List Inner) (rest : List ℕ) : Type 0 where
  pub known : Contains lists inner
  pub many : length inner ≡ count
  pub fits : All FitsInner inner
  pub begins : text ≡ inner_text inner ++ rest

-- the list has lines, and there is room for it
pub record MayBeKept (lists : List (List Inner)) (inner : List Inner) : Type 0 where
  pub fits : All FitsInner inner
  pub few : length lists < list_limit
  pub room : byte_count lists + length (inner_text inner) ≤ byte_limit

-- a list that comes is known afterwards, unless it may not be kept
pub data Keeps (old : List (List Inner)) (inner : List Inner) (new : List (List Inner)) : Type 0 where
  known : Contains old inner → new ≡ old → Keeps old inner new
  full : (MayBeKept old inner → ⊥) → new ≡ old → Keeps old inner new
  added : (Contains old inner → ⊥) → MayBeKept old inner → new ≡ old ++ inner ∷ [] → Keeps old inner new
