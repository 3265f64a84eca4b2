-- The states of some boxes alone that are known.
use Rattle.std.specs.Prelude.{ℕ, ◌≡◌, ◌≤◌, All, length, map}
use Rattle.sok_board.specs.Area.{BoardView, IsAccepted}
use Rattle.sok_board.specs.Limits.{box_limit}
use Rattle.sok_rules.specs.States.{ReachedFrom}
use Rattle.sok_state.specs.declared.key.Key.{Key}
use Rattle.sok_state.specs.Keys.{IsKey, key_position}
use Rattle.sok_state.specs.Tables.{Tabled}
use Rattle.sok_closed.specs.Fine.{AreEntered, IsOfBoard}
use Rattle.sok_closed.specs.Lookup.{Rolled}
use Rattle.sok_closed.specs.Rolls.{node_position}
use Rattle.sok_entry.specs.declared.entry.Inner.{Inner}
use Rattle.sok_entry.specs.declared.entry.InnerReason.{InnerReason}
use Rattle.sok_entry.specs.Text.{FitsInner}
use Rattle.sok_bar.specs.Patterns.{IsBarredAlone, inner_node, is_expanded}
use Rattle.sok_alone.specs.declared.known.Known.{Known}

-- what a search is given: an accepted board, a table of states at which it stops, with room for the board's squares, and a start with few boxes
pub record IsAsked (b : BoardView) (lives : Tabled) (start : Key) : Type 0 where
  pub accepted : IsAccepted b
  pub room : length b.area ≤ lives.room
  pub few_boxes : length start.boxes ≤ box_limit

-- the position of a state with the player on its least square, with a reason
abbrev pub inner_at : Key → InnerReason → Inner
inner_at key reason = record { depth = 0; player = key.least; boxes = key.boxes; reason = reason }

-- the known states as a roll
abbrev pub roll_of : Known → Rolled
roll_of known = record { entries = known.table.entries; room = known.table.room; marks = map (λ one. is_expanded one.reason) known.inner.items }

-- a state with as many boxes as the start, which can be reached from it with these boxes alone
pub record IsReached (b : BoardView) (start : Key) (key : Key) : Type 0 where
  pub state : IsKey b key
  pub as_many : length key.boxes ≡ length start.boxes
  pub reached : ReachedFrom b.rows (key_position b start) (key_position b key)

-- a position at depth 0 that can be reached from the start, and has a line in a certificate
pub record IsCome (b : BoardView) (start : Key) (one : Inner) : Type 0 where
  pub first : one.depth ≡ 0
  pub reached : ReachedFrom b.rows (key_position b start) (node_position b (inner_node one))
  pub fits : FitsInner one

-- the invariant of the known states
pub record IsKnown (b : BoardView) (start : Key) (limit : ℕ) (known : Known) : Type 0 where
  pub entered : AreEntered inner_node b (length start.boxes) (IsBarredAlone b) known.inner.items (roll_of known)
  pub of_board : IsOfBoard b (roll_of known)
  pub come : All (IsCome b start) known.inner.items
  pub few : length known.inner.items ≤ limit
