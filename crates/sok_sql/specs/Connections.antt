-- A connection that holds the table of levels.
use Rattle.std.specs.Prelude.{◌≡◌, ◌⊎◌, false, List, [], IsTrue}
use Rattle.sqlite.specs.Tree.{Trees}
use Rattle.sqlite.specs.State.{State, HasCleanDisk, Survives}
use Rattle.sok_sql.specs.Leaves.{Leaf, HasLeaves, level_schema, no_schema}

-- the table has exactly these rows, and so has the last commit
pub record Shows (s : State) (leaves : List Leaf) : Type 0 where
  pub schema : s.now.schema ≡ level_schema
  pub rows : HasLeaves s.now.trees leaves
  pub settled : s.committed ≡ s.now
  pub autocommit : s.in_transaction ≡ false

-- the same, and the connection is open
abbrev pub Stores : State → List Leaf → Type 0
Stores s leaves = IsTrue s.is_open × Shows s leaves

-- the same, unless a failure of the disk has shut the connection
abbrev pub Holds : State → List Leaf → Type 0
Holds s leaves = IsTrue s.is_open → Shows s leaves

-- the call does not shut the connection
abbrev pub StaysOpen : State → State → Type 0
StaysOpen old new = IsTrue old.is_open → IsTrue new.is_open

-- nothing has changed, unless a failure of the disk has shut the connection
abbrev pub IsSame : State → State → Type 0
IsSame old new =
    IsTrue new.is_open → IsTrue old.is_open × (new.now ≡ old.now) × (new.committed ≡ old.committed) × (new.in_transaction ≡ false)

-- the connection shows the last commit, and no transaction is open
abbrev pub IsSettled : State → Type 0
IsSettled s = IsTrue s.is_open → (s.now ≡ s.committed) × (s.in_transaction ≡ false)

-- there is nothing, or only this table
abbrev pub IsKnown : State → Type 0
IsKnown s = (s.now.schema ≡ no_schema) ⊎ (s.now.schema ≡ level_schema)

-- A call that only reads. The rows stay, and a stop in the middle leaves what was there.
pub record Rests (old new : State) : Type 0 where
  pub kept : HasCleanDisk new → (leaves : List Leaf) → Holds old leaves → Holds new leaves
  pub stop : Survives old new (λ _. IsKnown old → ⊥)

-- What a stop in the middle of creating the table may leave instead of what was there: a table without rows if there was nothing. If there was the table,
-- nothing else is left.
abbrev pub LeavesEmpty : State → Trees → Type 0
LeavesEmpty old db = (old.now.schema ≡ no_schema → HasLeaves db []) × (old.now.schema ≡ level_schema → ⊥)
