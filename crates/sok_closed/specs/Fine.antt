-- Lists whose entries are fine, each by itself, and the roll of their states.
use Rattle.std.specs.Prelude.{ℕ, ◌≡◌, ◌<◌, ◌≤◌, List, Some, MatchBool, length, slice_get}
use Rattle.sok_rules.specs.Play.{AllOnGoals}
use Rattle.sok_rules.specs.States.{Same}
use Rattle.sok_board.specs.Area.{BoardView}
use Rattle.sok_closed.specs.Lookup.{AreKeys, IsRolled, Rolled}
use Rattle.sok_closed.specs.Rolls.{IsPosition, Node, node_position}

-- no entry before a place has the same state
abbrev pub IsNew : {E : Type 0} → (E → Node) → BoardView → List E → ℕ → E → Type 0
IsNew {E} node b entries i e =
    (j : ℕ) (f : E) → j < i → slice_get entries j ≡ Some f → Same b.rows (node_position b (node f)) (node_position b (node e)) → ⊥

-- an expanded entry has a box off a goal; any other entry is barred
abbrev pub IsReasoned : {E : Type 0} → (E → Node) → BoardView → (E → Type 0) → E → Type 0
IsReasoned node b IsBarred e = MatchBool (node e).expanded (AllOnGoals b.rows (node_position b (node e)) → ⊥) (IsBarred e)

-- What an entry must satisfy by itself: it is a position, no earlier entry has its state, and it is barred, or expanded with a box off a goal.
pub record IsFine {E : Type 0} (node : E → Node) (b : BoardView) (count : ℕ) (IsBarred : E → Type 0) (entries : List E) (i : ℕ) (e : E) : Type 0 where
  pub position : IsPosition b count (node e)
  pub new : IsNew node b entries i e
  pub reasoned : IsReasoned node b IsBarred e

-- all entries before a place are fine
abbrev pub AreFine : {E : Type 0} → (E → Node) → BoardView → ℕ → (E → Type 0) → List E → ℕ → Type 0
AreFine {E} node b count IsBarred entries n = (i : ℕ) (e : E) → i < n → slice_get entries i ≡ Some e → IsFine node b count IsBarred entries i e

-- a list whose entries are fine, and the roll of their states
pub record AreEntered {E : Type 0} (node : E → Node) (b : BoardView) (count : ℕ) (IsBarred : E → Type 0) (entries : List E) (roll : Rolled) : Type 0 where
  pub fine : AreFine node b count IsBarred entries (length entries)
  pub rolled : IsRolled node b entries (length entries) roll

-- a roll of states of the board, with room for its squares
pub record IsOfBoard (b : BoardView) (roll : Rolled) : Type 0 where
  pub keys : AreKeys b roll.entries
  pub wide : length b.area ≤ roll.room
