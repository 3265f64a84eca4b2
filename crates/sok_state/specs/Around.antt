-- Where the player can walk after a push, derived from the squares around its box.
use Rattle.std.specs.Prelude.{ℕ, ◌≡◌, ◌<◌, List, Option, Some, None, Bool, Contains, IsTrue, length}
use Rattle.std.specs.List.Sorted.{IsStrictlyIncreasing}
use Rattle.sok_rules.specs.declared.cell.Dir.{Dir}
use Rattle.sok_board.specs.Area.{BoardView, beside, spot_of}
use Rattle.sok_board.specs.BoxSets.{IsMoved}
use Rattle.sok_field.specs.Fields.{has}
use Rattle.sok_field.specs.Numbers.{Draws}
use Rattle.sok_field.specs.Trails.{Leads}
use Rattle.sok_state.specs.declared.key.Key.{Key}
use Rattle.sok_state.specs.declared.push.Push.{Push}
use Rattle.sok_state.specs.Keys.{IsKey}
use Rattle.sok_state.specs.Pushes.{IsLegal, Reaches}

-- membership in a set of squares, by their numbers
abbrev pub among : BoardView → List ℕ → ℕ → Bool
among b set n = has set (spot_of b n)

-- the square beside another is in a set
pub record IsBesideIn (b : BoardView) (set : List ℕ) (square : ℕ) (d : Dir) (t : ℕ) : Type 0 where
  pub is : beside b square d ≡ Some t
  pub within : t < length b.area
  pub has : IsTrue (among b set t)

-- the square beside another if it is in a set, otherwise None
abbrev pub TellsBeside : BoardView → List ℕ → ℕ → Dir → Option ℕ → Type 0
TellsBeside b set square d None = (t : ℕ) → beside b square d ≡ Some t → IsTrue (among b set t) → ⊥
TellsBeside b set square d (Some t) = IsBesideIn b set square d t

-- the square beside another, if it is free, is one that the player reached before
abbrev pub IsReachedBeside : BoardView → List ℕ → List ℕ → ℕ → Dir → Type 0
IsReachedBeside b free reached square d = (t : ℕ) → beside b square d ≡ Some t → IsTrue (among b free t) → IsTrue (among b reached t)

-- the square beside another, if it is free, can be walked to from a square over free squares
abbrev pub IsLedBeside : BoardView → List ℕ → ℕ → ℕ → Dir → Type 0
IsLedBeside b free from square d = (t : ℕ) → beside b square d ≡ Some t → IsTrue (among b free t) → Leads b (among b free) from t

-- a push from a state, the boxes after it, the squares that these leave free, and those that the player reached before it
pub record IsStepping (b : BoardView) (key : Key) (push : Push) (to : ℕ) (free reached after : List ℕ) : Type 0 where
  pub state : IsKey b key
  pub legal : IsLegal b key push
  pub ahead : beside b push.from push.dir ≡ Some to
  pub moved : IsMoved key.boxes push.from to after
  pub rising : IsStrictlyIncreasing after
  pub left : Draws b (λ n. Contains after n → ⊥) free
  pub came : Reaches b key reached
