-- What is known of databases by their paths.
use Rattle.std.specs.Prelude.{ℕ, List, ⊤}
use Rattle.sok_engine.specs.declared.fault.ToolFault.{ToolFault}
use Rattle.sok_databases.specs.declared.databases.Access.{Access}
use Rattle.sok_databases.specs.declared.databases.Access.TheVariants as accesses

-- What is known of the databases at all paths. A connection to one is a `C`.
pub record KnownDatabases (C : Type 0) : Type 1 where
  -- the database at this path may be opened as this connection: one that exists, one that is made, or a copy of one
  pub opens_as : Access → List ℕ → C → Type 0
  -- the database at this path may be refused, with this fault
  pub refuses : List ℕ → ToolFault → Type 0
  -- this connection to the database at this path was given back
  pub closes_as : List ℕ → C → Type 0
  -- the path of the database that was opened last led to its file
  pub stood : Type 0
  -- that path may lead to another file
  pub moves : Type 0
  -- the database at this path may be made or changed, with the log beside it
  pub may_change : List ℕ → Type 0

-- nothing is known of the databases, and each may be changed
abbrev pub unknown_databases : {C : Type 0} → KnownDatabases C
unknown_databases = record {
  opens_as = λ access path connection. ⊤;
  refuses = λ path fault. ⊤;
  closes_as = λ path connection. ⊤;
  stood = ⊤;
  moves = ⊤;
  may_change = λ path. ⊤;
}

-- A database may be opened to be changed if it may be changed. Each may be opened to be read.
abbrev pub MayOpen : {C : Type 0} → KnownDatabases C → Access → List ℕ → Type 0
MayOpen databases accesses.Read path = ⊤
MayOpen databases access path = databases.may_change path
