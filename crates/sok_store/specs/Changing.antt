-- What a command changes of a page.
use Rattle.std.specs.Prelude.{ℕ, ℤ, pos, ◌≡◌, ◌⊎◌, ◌+◌, ◌<◌, ◌≤◌, List, [], ◌∷◌, ◌++◌, Option, Some, length, string_bytes}
use Rattle.sqlite.specs.State.{State, HasCleanDisk, Survives}
use Rattle.sok_rules.specs.Squares.{Rows}
use Rattle.sok_book.specs.declared.fault.BookFault.{BookFault}
use Rattle.sok_book.specs.declared.fault.BookFault.TheVariants.{BookFull, Database}
use Rattle.sok_book.specs.declared.record.Verdict.{Verdict}
use Rattle.sok_book.specs.declared.record.Verdict.TheVariants.{Untested}
use Rattle.sok_book.specs.Books.{Book, Page, Solution, page_at}
use Rattle.sok_book.specs.Commands.{IsUnknown, level_limit, with_page}
use Rattle.sok_book.specs.Kept.{IsKeptPage, IsKeptSolution}
use Rattle.sok_book.specs.Texts.{lurd_of}
use Rattle.sok_sql.specs.Causes.{HasCause}
use Rattle.sok_sql.specs.Connections.{StaysOpen}
use Rattle.sok_sql.specs.Leaves.{new_leaf}
use Rattle.sok_store.specs.Rows.{HasBook, HoldsBook, ShowsBook, StoresBook, leaf_of}
use Rattle.sok_store.specs.Calls.{HasTooBig}
use Rattle.sok_store.specs.declared.columns.BestColumns.{BestColumns}

-- the columns hold this solution of a level
pub record AreBestColumns (rows : Rows) (best : Solution) (columns : BestColumns) : Type 0 where
  pub lurd : string_bytes columns.lurd ≡ lurd_of rows best.letters
  pub pushes : columns.pushes ≡ best.pushes
  pub moves : columns.moves ≡ best.moves

-- the page with the solution that these columns hold, and no verdict
pub record HasBest (columns : BestColumns) (page after : Page) : Type 0 where
  pub solution : Solution
  pub kept : IsKeptSolution page.level solution
  pub columns_are : AreBestColumns page.level solution columns
  pub after_is : after ≡ record page { best = Some solution; verdict = Untested }

-- the page with this verdict
pub record HasVerdict (verdict : Verdict) (page after : Page) : Type 0 where
  pub kept : IsKeptPage after
  pub after_is : after ≡ record page { verdict = verdict }

-- the page with this id is replaced by one that is made of it in this way
abbrev pub Sets : State → State → ℕ → (Page → Page → Type 0) → Type 0
Sets old new id Makes =
    HasCleanDisk new → (book : Book) (page after : Page) → HoldsBook old book → page_at book id ≡ Some page → Makes page after
    → HoldsBook new (with_page book id after) × StaysOpen old new

-- a stop leaves the page, or the one that replaces it
abbrev pub StopsSetting : State → State → ℕ → (Page → Page → Type 0) → Type 0
StopsSetting old new id Makes = Survives old new (λ db.
    (book : Book) (page after : Page) → ShowsBook old book → page_at book id ≡ Some page → Makes page after → HasBook db (with_page book id after))

-- a page that may be added, with this text and this title
pub record IsNewPage (book : Book) (text : List ℕ) (title : Option (List ℕ)) (page : Page) : Type 0 where
  pub leaf : leaf_of page ≡ new_leaf text title
  pub kept : IsKeptPage page
  pub unknown : IsUnknown book page.level

-- the page is added, and its id is returned
abbrev pub AddsPage : State → State → List ℕ → Option (List ℕ) → ℤ → Type 0
AddsPage old new text title id =
    HasCleanDisk new → (book : Book) (page : Page) → HoldsBook old book → IsNewPage book text title page
    → (id ≡ pos (length book + 1)) × (length book < level_limit) × StoresBook new (book ++ page ∷ [])

-- a stop leaves the page added, or nothing changed
abbrev pub StopsAdding : State → State → List ℕ → Option (List ℕ) → Type 0
StopsAdding old new text title = Survives old new (λ db.
    (book : Book) (page : Page) → ShowsBook old book → IsNewPage book text title page
    → (length book < level_limit) × HasBook db (book ++ page ∷ []))

abbrev pub IsFull : Book → BookFault → Type 0
IsFull book fault = (fault ≡ BookFull) × (level_limit ≤ length book)

-- why the page with this id was not replaced
abbrev pub IsCausedSetting : State → State → ℕ → (Page → Page → Type 0) → BookFault → Type 0
IsCausedSetting old new id Makes fault =
    fault ≡ Database → HasCleanDisk new → (book : Book) (page after : Page) → HoldsBook old book → page_at book id ≡ Some page → Makes page after
    → HasTooBig (with_page book id after) ⊎ HasCause old new

-- why a page was not added
abbrev pub IsCausedAdding : State → State → List ℕ → Option (List ℕ) → BookFault → Type 0
IsCausedAdding old new text title fault =
    fault ≡ Database → HasCleanDisk new → (book : Book) (page : Page) → HoldsBook old book → IsNewPage book text title page
    → ((length book < level_limit) × HasTooBig (book ++ page ∷ [])) ⊎ HasCause old new
