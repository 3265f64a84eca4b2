-- What is opened as a book, and why something is refused.
use Rattle.std.specs.Prelude.{ℤ, ◌≡◌, ◌⊎◌, []}
use Rattle.sqlite.specs.State.{State, HasCleanDisk}
use Rattle.sqlite.specs.Tree.{Trees}
use Rattle.sok_sql.specs.Causes.{HasCause}
use Rattle.sok_sql.specs.Connections.{IsKnown}
use Rattle.sok_sql.specs.Leaves.{level_schema, no_schema}
use Rattle.sok_book.specs.declared.fault.BookFault.{BookFault}
use Rattle.sok_book.specs.declared.fault.BookFault.TheVariants.{BadBook, Database}
use Rattle.sok_book.specs.Books.{Book}
use Rattle.sok_store.specs.Faults.{IsOutside}
use Rattle.sok_store.specs.Rows.{HasBook, StoresBook}
use Rattle.sok_store.specs.BadRows.{IsBadTable}

-- if there was nothing, the book is empty; if there was the table, it is the book of exactly these rows
pub record Opens (old new : State) : Type 0 where
  pub made : old.now.schema ≡ no_schema → StoresBook new []
  pub found : old.now.schema ≡ level_schema → (book : Book) × HasBook old.now.trees book × StoresBook new book

-- What a stop in the middle of opening may leave instead of what was there: the empty book if there was nothing. If there was the table, nothing else is left.
abbrev pub LeavesOpening : State → Trees → Type 0
LeavesOpening old db = (old.now.schema ≡ no_schema → HasBook db []) × (old.now.schema ≡ level_schema → ⊥)

-- memory was refused, or the database refused; or a row breaks a rule of books, and the fault names the first such row
abbrev pub IsUnopened : State → State → BookFault → Type 0
IsUnopened old new fault = IsOutside fault ⊎ ((id : ℤ) × (fault ≡ BadBook id) × (HasCleanDisk new → IsKnown old → IsBadTable (old.now.trees 0) id))

-- if the database was empty or had only the table, the fault is `Database` only if the connection gave a cause
abbrev pub IsCausedOpening : State → State → BookFault → Type 0
IsCausedOpening old new fault = fault ≡ Database → HasCleanDisk new → IsKnown old → HasCause old new
