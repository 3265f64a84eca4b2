-- Lists of states in which each legal push from an expanded one leads to another.
use Rattle.std.specs.Prelude.{ℕ, ◌≡◌, ◌≤◌, ◌+◌, List, Some, Bool, true, false, IsTrue, Contains, All, length, slice_get}
use Rattle.sok_rules.specs.declared.cell.Dir.{Dir}
use Rattle.sok_rules.specs.Play.{Position, After, step, AllOnGoals}
use Rattle.sok_rules.specs.States.{Same}
use Rattle.sok_board.specs.Area.{BoardView, position_of}
use Rattle.sok_region.specs.Regions.{IsPlaced}

-- A state of a list: its depth, the squares of the player and the boxes, and whether it is expanded, so that every push from it has to lead to the list.
pub record Node : Type 0 where
  pub depth : ℕ
  pub player : ℕ
  pub boxes : List ℕ
  pub expanded : Bool

abbrev pub node_position : BoardView → Node → Position
node_position b n = position_of b n.player n.boxes

-- the numbers are squares that make a position with this many boxes
pub record IsPosition (b : BoardView) (count : ℕ) (n : Node) : Type 0 where
  pub placed : IsPlaced b n.boxes n.player
  pub as_many : length n.boxes ≡ count

-- The definitions below are about lists of any type of entries, each of which is seen as a node.

-- an entry with the state of a position, at most one deeper than `depth`
pub record IsFollower {E : Type 0} (node : E → Node) (b : BoardView) (entries : List E) (depth : ℕ) (x : Position) (f : E) : Type 0 where
  pub listed : Contains entries f
  pub near : (node f).depth ≤ depth + 1
  pub same : Same b.rows x (node_position b (node f))

-- each push that is legal after some walk leads to an entry that is at most one deeper
abbrev pub IsFollowed : {E : Type 0} → (E → Node) → BoardView → List E → Node → Type 0
IsFollowed {E} node b entries n =
    (x : Position) (d : Dir) (after : After) → Same b.rows (node_position b n) x → step b.rows d x ≡ Some after → after.pushed ≡ true
    → (f : E) × IsFollower node b entries n.depth after.position f

-- the same, required only if the entry is expanded
abbrev pub IsClosedAt : {E : Type 0} → (E → Node) → BoardView → List E → E → Type 0
IsClosedAt node b entries e = IsTrue (node e).expanded → IsFollowed node b entries (node e)

-- an entry of depth 0 with the state of a position
pub record IsStarter {E : Type 0} (node : E → Node) (b : BoardView) (from : Position) (entries : List E) (e : E) : Type 0 where
  pub listed : Contains entries e
  pub first : (node e).depth ≡ 0
  pub same : Same b.rows from (node_position b (node e))

-- no two entries have the same state
abbrev pub AreApart : {E : Type 0} → (E → Node) → BoardView → List E → Type 0
AreApart {E} node b entries = (i j : ℕ) (e f : E) → slice_get entries i ≡ Some e → slice_get entries j ≡ Some f
    → Same b.rows (node_position b (node e)) (node_position b (node f)) → i ≡ j

-- The entries are positions with `count` boxes, and no two have the same state. One of them, at depth 0, has the state of `from`. Each expanded one has a box
-- off a goal, and every push from it leads to an entry that is at most one deeper.
pub record IsRoll {E : Type 0} (node : E → Node) (b : BoardView) (count : ℕ) (from : Position) (entries : List E) : Type 0 where
  pub positions : All (λ e. IsPosition b count (node e)) entries
  pub apart : AreApart node b entries
  pub unsolved : All (λ e. IsTrue (node e).expanded → AllOnGoals b.rows (node_position b (node e)) → ⊥) entries
  pub starter : (e : E) × IsStarter node b from entries e
  pub followed : All (IsClosedAt node b entries) entries

-- A closed list: the same, and each entry that is not expanded is barred. What bars an entry is left open here.
pub record IsClosed {E : Type 0} (node : E → Node) (b : BoardView) (count : ℕ) (from : Position) (IsBarred : E → Type 0) (entries : List E) : Type 0 where
  pub rolled : IsRoll node b count from entries
  pub barred : All (λ e. (node e).expanded ≡ false → IsBarred e) entries
