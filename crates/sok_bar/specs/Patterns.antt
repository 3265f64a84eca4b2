-- Boxes that are never solved, even alone on the board: a list of positions of them that is closed under pushes.
use Rattle.std.specs.Prelude.{ℕ, List, Bool, true, false, length, map, slice_index}
use Rattle.sok_board.specs.Area.{BoardView, position_of}
use Rattle.sok_closed.specs.Rolls.{IsClosed, Node}
use Rattle.sok_entry.specs.declared.entry.Inner.{Inner}
use Rattle.sok_entry.specs.declared.entry.InnerReason.{InnerReason}
use Rattle.sok_entry.specs.declared.entry.InnerReason.TheVariants.{Expanded, Crowd, Frozen}
use Rattle.sok_price.specs.Prices.{AreMembers, IsCrowd}
use Rattle.sok_bar.specs.Jam.{IsJam}

abbrev pub is_expanded : InnerReason → Bool
is_expanded Expanded = true
is_expanded (Crowd members) = false
is_expanded (Frozen members) = false

-- a position of a pattern as a node of a list of states
abbrev pub inner_node : Inner → Node
inner_node one = record { depth = one.depth; player = one.player; boxes = one.boxes; expanded = is_expanded one.reason }

-- the claim of its reason about its boxes, which are all that are on the board
abbrev pub BarsAlone : BoardView → List ℕ → InnerReason → Type 0
BarsAlone b boxes Expanded = Unit {0}
BarsAlone b boxes (Crowd members) = IsCrowd b boxes members
BarsAlone b boxes (Frozen members) = IsJam b boxes members

abbrev pub IsBarredAlone : BoardView → Inner → Type 0
IsBarredAlone b one = BarsAlone b one.boxes one.reason

-- the positions are closed under pushes from where the player stands with the boxes alone, and none of them is solved
abbrev pub AreClosedAlone : BoardView → ℕ → List ℕ → List Inner → Type 0
AreClosedAlone b player boxes inner = IsClosed inner_node b (length boxes) (position_of b player boxes) (IsBarredAlone b) inner

-- the squares of members
abbrev pub squares_at : List ℕ → List ℕ → List ℕ
squares_at boxes members = map (slice_index boxes) members

-- members of the boxes that are never solved, even alone on the board
pub record IsPattern (b : BoardView) (player : ℕ) (boxes members : List ℕ) (inner : List Inner) : Type 0 where
  pub listed : AreMembers boxes members
  pub closed : AreClosedAlone b player (squares_at boxes members) inner
