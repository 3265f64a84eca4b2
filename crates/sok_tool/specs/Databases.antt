-- What a command makes of the book in a database, and how it ends.
use Rattle.std.specs.Prelude.{ℕ, ◌≡◌, ◌⊎◌, List, Option, Result, Err, IfErr, IsTrue}
use Rattle.sqlite.specs.State.{State, HasCleanDisk}
use Rattle.sok_book.specs.declared.fault.BookFault.{BookFault}
use Rattle.sok_book.specs.declared.fault.BookFault.TheVariants as refusal
use Rattle.sok_book.specs.Books.{Book}
use Rattle.sok_engine.specs.declared.fault.ToolFault.{ToolFault}
use Rattle.sok_engine.specs.declared.fault.ToolFault.TheVariants as tool
use Rattle.sok_engine.specs.Certified.{Bytes, Stays}
use Rattle.sok_engine.specs.Faults.{of_book}
use Rattle.sok_sql.specs.Connections.{IsKnown, IsSame}
use Rattle.sok_store.specs.Calls.{ChangesBook, Stops}
use Rattle.sok_store.specs.Opening.{IsCausedOpening, IsUnopened, Opens}
use Rattle.sok_keep.specs.Causes.{IsCausedFault}
use Rattle.sok_databases.specs.declared.databases.Access.{Access}
use Rattle.sok_databases.specs.Known.{KnownDatabases}

-- What is known of the database at one path: the connections to it, the state that each shows, which one may be opened, how the database may be refused, which
-- connection is given back, and whether another file may have the path by then.
pub record Place : Type 1 where
  pub Connection : Type 0
  pub shows : Connection → State
  pub opens_as : Connection → Type 0
  pub refuses : ToolFault → Type 0
  pub closes_as : Connection → Type 0
  pub moves : Type 0

abbrev pub place : {C : Type 0} → (C → State) → KnownDatabases C → Access → List ℕ → Place
place {C} shows known access path = record {
  Connection = C;
  shows = shows;
  opens_as = known.opens_as access path;
  refuses = known.refuses path;
  closes_as = known.closes_as path;
  moves = known.moves;
}

-- what is known of the databases at all paths
pub record Databases : Type 1 where
  pub Connection : Type 0
  pub shows : Connection → State
  pub known : KnownDatabases Connection

-- databases of which this is known
abbrev pub databases_by : {C : Type 0} → (C → State) → KnownDatabases C → Databases
databases_by {C} shows known = record { Connection = C; shows = shows; known = known }

-- the database at a path, opened with this access
abbrev pub at : Databases → Access → List ℕ → Place
at databases access path = place databases.shows databases.known access path

-- this is true of the bytes that an opened file may have left
abbrev pub OfOpened : (Option (List ℕ) → Type 0) → (Option (List ℕ) → Type 0) → Type 0
OfOpened reads P = (known : Option (List ℕ)) × reads known × P known

-- A database is not opened as a book, and this fault is reported. If it was empty, or had only the table of levels, it stays as it was, and `Database` is
-- reported only with a cause.
abbrev pub IsNoBook : State → State → ToolFault → Type 0
IsNoBook found left told =
    (cause : BookFault) × (told ≡ of_book cause) × IsUnopened found left cause × (HasCleanDisk left → IsKnown found → IsSame found left)
    × IsCausedOpening found left cause

-- the file that a command names can't be opened, and this is reported
abbrev pub IsFileless : Type 0 → ToolFault → Type 0
IsFileless lacks told = lacks × (told ≡ tool.ReadFailed)

abbrev pub IsNeverLacking : ToolFault → Type 0
IsNeverLacking told = ⊥

-- a book was opened, with exactly the rows that were found in a database that may be opened
abbrev pub OpensFound : (db : Place) → db.Connection → Type 0
OpensFound db opened = (found : db.Connection) × db.opens_as found × (HasCleanDisk (db.shows opened) → Opens (db.shows found) (db.shows opened))

-- Why a command on a book has none to work on: memory was refused for its words; the database is refused; it is in a transaction, and the connection is given
-- back as it was opened; it is not a book, and the connection is given back; or it was opened as a book, what the command names beside it is missing, and the
-- connection is given back.
pub data IsWithoutBook (db : Place) (Lacks : ToolFault → Type 0) (told : ToolFault) : Type 0 where
  unread : told ≡ tool.Memory → IsWithoutBook db Lacks told
  unconnected : db.refuses told → (told ≡ tool.Memory) ⊎ (told ≡ tool.Book refusal.Database) → IsWithoutBook db Lacks told
  busy : (found : db.Connection) → db.opens_as found → db.closes_as found → IsTrue (db.shows found).in_transaction → told ≡ tool.Book refusal.Database
      → IsWithoutBook db Lacks told
  bookless : (found left : db.Connection) → db.opens_as found → db.closes_as left → IsNoBook (db.shows found) (db.shows left) told → IsWithoutBook db Lacks told
  fileless : Lacks told → (opened : db.Connection) → OpensFound db opened → db.closes_as opened → IsWithoutBook db Lacks told

-- The end of a command is reported as it is. Or it is reported as `Database`, since another file has the path of the database by then.
abbrev pub IsTold : Type 0 → Result ℕ ToolFault → Result ℕ ToolFault → Type 0
IsTold moves ended told = (told ≡ ended) ⊎ (moves × (told ≡ Err (tool.Book refusal.Database)))

-- How a command on a book ends. Without a book, nothing is written. With one, the command makes of it what `Makes` says and its end is reported. If it stops
-- midway, the book is as it was opened or one that the command may make. It ends with `Database` only with a cause.
pub data WorksOn (db : Place) (Lacks : ToolFault → Type 0) (MayMake : Book → Book → Type 0) (Makes : Result ℕ ToolFault → Book → Book → Type 0) (out : Bytes)
    (result : Result ℕ ToolFault) : Type 0 where
  refused : (told : ToolFault) → IsWithoutBook db Lacks told → result ≡ Err told → Stays out → WorksOn db Lacks MayMake Makes out result
  worked : (ended : Result ℕ ToolFault) (found opened left : db.Connection) → IsTold db.moves ended result → db.opens_as found → db.closes_as left
      → (HasCleanDisk (db.shows left) → Opens (db.shows found) (db.shows opened)) → ChangesBook (db.shows opened) (db.shows left) (Makes ended)
      → Stops (db.shows opened) (db.shows left) MayMake → IfErr ended (IsCausedFault (db.shows opened) (db.shows left) MayMake)
      → WorksOn db Lacks MayMake Makes out result
