-- A row of the table is inserted or updated.
use Rattle.std.specs.Prelude.{ℕ, ◌≡◌, ◌⊎◌, ◌+◌, List, [], ◌∷◌, ◌++◌, Result, Some, IfErr, OnErr, OnOk, length, slice_get, slice_set}
use Rattle.sqlite.specs.declared.error.Error.{Error}
use Rattle.sqlite.specs.State.{State, HasCleanDisk, Survives}
use Rattle.sok_sql.specs.Causes.{AreApart, IsExcused, IsTooBig}
use Rattle.sok_sql.specs.Connections.{Holds, Shows, StaysOpen}
use Rattle.sok_sql.specs.Leaves.{Leaf, HasLeaves}

-- what a statement does, however it ends, that adds a row with the next id
pub record Inserts {X : Type 0} (old new : State) (id : ℕ) (leaf : Leaf) (result : Result X Error) : Type 0 where
  pub done : HasCleanDisk new → (leaves : List Leaf) → Holds old leaves → id ≡ 1 + length leaves
      → OnOk result (Holds new (leaves ++ leaf ∷ []) × StaysOpen old new)
  pub kept : HasCleanDisk new → (leaves : List Leaf) → Holds old leaves → OnErr result (Holds new leaves)
  pub stop : Survives old new (λ db. (leaves : List Leaf) → Shows old leaves → id ≡ 1 + length leaves → HasLeaves db (leaves ++ leaf ∷ []))
  pub cause : HasCleanDisk new → (leaves : List Leaf) → Holds old leaves → id ≡ 1 + length leaves → AreApart (leaves ++ leaf ∷ [])
      → IfErr result (λ e. IsTooBig id leaf ⊎ IsExcused old new e)

-- if `Before` is true of the rows, `After` is true of them once the row with this id is changed
abbrev pub UpdatesLeaf : (List Leaf → Type 0) → (List Leaf → Type 0) → ℕ → (Leaf → Leaf) → Type 0
UpdatesLeaf Before After id change =
    (leaves : List Leaf) (index : ℕ) (leaf : Leaf) → Before leaves → id ≡ 1 + index → slice_get leaves index ≡ Some leaf
    → After (slice_set leaves index (change leaf))

-- what a statement does, however it ends, that changes the row with this id
pub record Updates {X : Type 0} (old new : State) (id : ℕ) (change : Leaf → Leaf) (result : Result X Error) : Type 0 where
  pub done : HasCleanDisk new → UpdatesLeaf (Holds old) (λ leaves. OnOk result (Holds new leaves × StaysOpen old new)) id change
  pub kept : HasCleanDisk new → (leaves : List Leaf) → Holds old leaves → OnErr result (Holds new leaves)
  pub stop : Survives old new (λ db. UpdatesLeaf (Shows old) (HasLeaves db) id change)
  pub cause : HasCleanDisk new → (leaves : List Leaf) (index : ℕ) (leaf : Leaf) → Holds old leaves → id ≡ 1 + index → slice_get leaves index ≡ Some leaf
      → AreApart (slice_set leaves index (change leaf)) → IfErr result (λ e. IsTooBig id (change leaf) ⊎ IsExcused old new e)
