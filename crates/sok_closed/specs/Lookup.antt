-- The table of the states of a list, in which the states that pushes lead to are looked up.
use Rattle.std.specs.Prelude.{ℕ, ◌≡◌, ◌<◌, ◌≤◌, ◌+◌, ◌++◌, ◌∷◌, [], List, Option, Some, None, Bool, true, false, All, Contains, length, slice_get, IsTrue}
use Rattle.std.specs.Prelude.{MatchBool}
use Rattle.std.specs.Map.{keys_of, values_of}
use Rattle.sok_rules.specs.Play.{Position, step}
use Rattle.sok_rules.specs.States.{Same}
use Rattle.sok_board.specs.Area.{BoardView, IsAccepted, spot_of}
use Rattle.sok_board.specs.Limits.{box_limit}
use Rattle.sok_state.specs.declared.key.Key.{Key}
use Rattle.sok_state.specs.declared.push.Push.{Push}
use Rattle.sok_state.specs.Keys.{IsKey, IsKeyOf}
use Rattle.sok_state.specs.Pushes.{IsLegal, LeadsTo, Precedes}
use Rattle.sok_state.specs.Tables as tables
use Rattle.sok_closed.specs.Rolls.{Node, IsPosition, node_position}

-- entry `i` of the table is this node: the same state, and the same depth
pub record IsEntered (b : BoardView) (table : tables.Entries) (i : ℕ) (n : Node) : Type 0 where
  pub key : Key
  pub there : tables.IsAt table key i
  pub depth : slice_get (values_of table) i ≡ Some n.depth
  pub is : IsKeyOf b (node_position b n) key

-- the table has the states of the first `n` entries, in order, and nothing else
pub record IsTableOf {E : Type 0} (node : E → Node) (b : BoardView) (entries : List E) (n : ℕ) (table : tables.Entries) : Type 0 where
  pub count : length table ≡ n
  pub distinct : tables.HasDistinctKeys table
  pub entered : (i : ℕ) (e : E) → i < n → slice_get entries i ≡ Some e → IsEntered b table i (node e)

-- the state that a push leads to is in the table, at most one deeper
pub record IsFound (b : BoardView) (table : tables.Entries) (key : Key) (depth : ℕ) (push : Push) : Type 0 where
  pub next : Key
  pub is : (after : Position) → LeadsTo b key push after → IsKeyOf b after next
  pub index : ℕ
  pub there : tables.IsAt table next index
  pub deep : ℕ
  pub depth_is : slice_get (values_of table) index ≡ Some deep
  pub near : deep ≤ depth + 1

-- the state that a push leads to is not in the table, or more than one deeper
abbrev pub IsMissing : BoardView → tables.Entries → Key → ℕ → Push → Type 0
IsMissing b table key depth push =
    (after : Position) (next : Key) (index deep : ℕ) → LeadsTo b key push after → IsKeyOf b after next → tables.IsAt table next index
    → slice_get (values_of table) index ≡ Some deep → deep ≤ depth + 1 → ⊥

abbrev pub TellsFound : BoardView → tables.Entries → Key → ℕ → Push → Bool → Type 0
TellsFound b table key depth push true = IsFound b table key depth push
TellsFound b table key depth push false = IsMissing b table key depth push

-- the index of the first of these pushes that leads to no such state, or None if each leads to one
abbrev pub TellsFirst : BoardView → tables.Entries → Key → ℕ → List Push → Option ℕ → Type 0
TellsFirst b table key depth pushes None = (i : ℕ) (push : Push) → slice_get pushes i ≡ Some push → IsFound b table key depth push
TellsFirst b table key depth pushes (Some k) =
    ((push : Push) × (slice_get pushes k ≡ Some push) × IsMissing b table key depth push)
    × ((i : ℕ) (push : Push) → i < k → slice_get pushes i ≡ Some push → IsFound b table key depth push)

-- the first legal push that leads to no such state, or None if each leads to one
abbrev pub TellsOpen : BoardView → tables.Entries → Key → ℕ → Option Push → Type 0
TellsOpen b table key depth None = (push : Push) → IsLegal b key push → IsFound b table key depth push
TellsOpen b table key depth (Some push) =
    (IsLegal b key push × IsMissing b table key depth push) × ((other : Push) → Precedes other push → IsLegal b key other → IsFound b table key depth other)

-- a table, its room, and a mark for each of its states: whether it is expanded
pub record Rolled : Type 0 where
  pub entries : tables.Entries
  pub room : ℕ
  pub marks : List Bool

-- a new state is appended, with its depth and its mark
pub record GoesLast (old : Rolled) (key : Key) (depth : ℕ) (expanded : Bool) (new : Rolled) : Type 0 where
  pub absent : Contains (keys_of old.entries) key → ⊥
  pub entries : new.entries ≡ old.entries ++ (key, depth) ∷ []
  pub marks : new.marks ≡ old.marks ++ expanded ∷ []

-- the state was entered before, and the roll is unchanged
pub record Stays (old : Rolled) (key : Key) (new : Rolled) : Type 0 where
  pub place : ℕ
  pub there : tables.IsAt old.entries key place
  pub unchanged : new ≡ old

-- what entering a state does; the flag says whether it is new
abbrev pub Enters : Rolled → Key → ℕ → Bool → Bool → Rolled → Type 0
Enters old key depth expanded is_new new = MatchBool is_new (GoesLast old key depth expanded new) (Stays old key new)

-- the state at an index is expanded, and has this depth
pub record IsMarked (roll : Rolled) (i : ℕ) (key : Key) (depth : ℕ) : Type 0 where
  pub expanded : slice_get roll.marks i ≡ Some true
  pub there : tables.IsAt roll.entries key i
  pub depth_is : slice_get (values_of roll.entries) i ≡ Some depth

-- each legal push from an expanded state before a place leads to a state in the table that is at most one deeper
abbrev pub AreFollowed : BoardView → Rolled → ℕ → Type 0
AreFollowed b roll n = (i : ℕ) (key : Key) (depth : ℕ) → i < n → IsMarked roll i key depth → TellsOpen b roll.entries key depth None

-- the first push of an expanded state that leads to no such state
pub record IsMissed (b : BoardView) (roll : Rolled) (i : ℕ) (push : Push) : Type 0 where
  pub key : Key
  pub depth : ℕ
  pub marked : IsMarked roll i key depth
  pub missed : TellsOpen b roll.entries key depth (Some push)
  pub before : AreFollowed b roll i

-- the index of the first expanded state with a push that leads to no such state, and its first such push; or None if there is none
abbrev pub TellsMissed : BoardView → Rolled → Option (ℕ × Push) → Type 0
TellsMissed b roll None = AreFollowed b roll (length roll.marks)
TellsMissed b roll (Some (i, push)) = IsMissed b roll i push

-- each key is one of the board, and has at most `box_limit` boxes
abbrev pub AreKeys : BoardView → tables.Entries → Type 0
AreKeys b table = (i : ℕ) (key : Key) → tables.IsAt table key i → IsKey b key × (length key.boxes ≤ box_limit)

-- the roll has the states and the marks of the first `n` entries
pub record IsRolled {E : Type 0} (node : E → Node) (b : BoardView) (entries : List E) (n : ℕ) (roll : Rolled) : Type 0 where
  pub table : IsTableOf node b entries n roll.entries
  pub as_many : length roll.marks ≡ n
  pub marks : (i : ℕ) (e : E) → i < n → slice_get entries i ≡ Some e → slice_get roll.marks i ≡ Some (node e).expanded

-- what is known after all entries were entered
pub record IsLooking {E : Type 0} (node : E → Node) (b : BoardView) (count : ℕ) (entries : List E) (table : tables.Entries) : Type 0 where
  pub accepted : IsAccepted b
  pub few : count ≤ box_limit
  pub positions : All (λ e. IsPosition b count (node e)) entries
  pub entered : IsTableOf node b entries (length entries) table

-- a push is legal from a position with the state of an expanded entry, and leads to the state of no entry that is at most one deeper
pub record IsOpen {E : Type 0} (node : E → Node) (b : BoardView) (entries : List E) (e : E) (push : Push) : Type 0 where
  pub expanded : IsTrue (node e).expanded
  pub exists : push.from < length b.area
  pub before : Position
  pub after : Position
  pub walked : Same b.rows (node_position b (node e)) before
  pub steps : step b.rows push.dir before ≡ Some (record { position = after; pushed = true })
  pub man : after.man ≡ spot_of b push.from
  pub unfollowed : (f : E) → Contains entries f → (node f).depth ≤ (node e).depth + 1 → Same b.rows after (node_position b (node f)) → ⊥

-- the first open push: no earlier entry has one, and no earlier push of this entry is one
pub record IsFirstOpen {E : Type 0} (node : E → Node) (b : BoardView) (entries : List E) (i : ℕ) (push : Push) : Type 0 where
  pub entry : E
  pub there : slice_get entries i ≡ Some entry
  pub is_open : IsOpen node b entries entry push
  pub earlier_entries : (j : ℕ) (f : E) (other : Push) → j < i → slice_get entries j ≡ Some f → IsOpen node b entries f other → ⊥
  pub earlier_pushes : (other : Push) → Precedes other push → IsOpen node b entries entry other → ⊥
