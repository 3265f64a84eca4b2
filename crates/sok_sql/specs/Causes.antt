-- Why a statement on the table of levels fails.
use Rattle.std.specs.Prelude.{◌≡◌, ◌⊎◌, ℕ, List, Some, false, slice_get, IsSome, IsTrue}
use Rattle.sqlite_disk.specs.Disk.{MoreFaults}
use Rattle.sqlite.specs.declared.error.ErrorCode.TheVariants as code
use Rattle.sqlite.specs.declared.error.Error.{Error}
use Rattle.sqlite.specs.declared.error.Error.TheVariants.{SqliteFailure, SqlInputError}
use Rattle.sqlite_resolve.specs.declared.error.CompileError.TheVariants.{NoSuchTable}
use Rattle.sqlite.specs.State.{State}
use Rattle.sqlite_rules.specs.Edit.{IsOversized}
use Rattle.sok_sql.specs.Leaves.{Leaf, level, level_schema, no_schema, stored}

-- the table is there, unless a failure of the disk has shut the connection
abbrev pub HasTable : State → Type 0
HasTable s = IsTrue s.is_open → s.now.schema ≡ level_schema

-- there is nothing, unless a failure of the disk has shut the connection
abbrev pub IsEmpty : State → Type 0
IsEmpty s = IsTrue s.is_open → s.now.schema ≡ no_schema

-- the connection was shut before, the number of steps of its statements is limited, or the store has failed since
abbrev pub HasCause : State → State → Type 0
HasCause old new = (old.is_open ≡ false) ⊎ (IsSome old.step_limit ⊎ MoreFaults old.faults new.faults)

abbrev pub IsMemory : Error → Type 0
IsMemory e = e ≡ SqliteFailure code.OutOfMemory

-- there is no such table
abbrev pub IsMissing : Error → Type 0
IsMissing e = e ≡ SqlInputError NoSuchTable

-- memory was refused, or there is one of the causes above
abbrev pub IsExcused : State → State → Error → Type 0
IsExcused old new e = IsMemory e ⊎ HasCause old new

-- the row with these values, or its entry in the index, is too big to be stored
abbrev pub IsTooBig : ℕ → Leaf → Type 0
IsTooBig id leaf = IsOversized level_schema level (stored id leaf)

-- no text occurs twice
abbrev pub AreApart : List Leaf → Type 0
AreApart leaves = (m n : ℕ) (leaf other : Leaf) → slice_get leaves m ≡ Some leaf → slice_get leaves n ≡ Some other → leaf.text ≡ other.text → m ≡ n
