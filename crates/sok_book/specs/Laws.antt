-- What holds of every book that commands made.
use Rattle.std.specs.Prelude.{ℕ, ◌≡◌, ◌≢◌, ◌<◌, ◌⊎◌, [], Option, Some, IsSomeAnd, IfSome}
use Rattle.sok_rules.specs.Squares.{Rows}
use Rattle.sok_book.specs.declared.record.Verdict.TheVariants.{Untested}
use Rattle.sok_book.specs.Books.{Book, Page, Solution, IsSolution, IsTrueBook, page_at}
use Rattle.sok_book.specs.Commands.{OneCommand}

-- a book that commands made, one after another, starting from the empty one
pub data IsMade : Book → Type 0 where
  empty : IsMade []
  more : (before after : Book) → IsMade before → OneCommand before after → IsMade after

-- every such book is true: its best solutions solve with their stated pushes and moves, and its verdicts hold
abbrev pub MadeBooksAreTrue : Type 0
MadeBooksAreTrue = (book : Book) → IsMade book → IsTrueBook book

-- a command keeps a true book true
abbrev pub CommandsKeepTruth : Type 0
CommandsKeepTruth = (book after : Book) → IsTrueBook book → OneCommand book after → IsTrueBook after

-- the best solution stays, or another one solves the level with fewer pushes
abbrev pub IsNoWorse : Rows → Solution → Option Solution → Type 0
IsNoWorse rows best after = (after ≡ Some best) ⊎ IsSomeAnd after (λ other. IsSolution rows other × (other.pushes < best.pushes))

-- a page keeps its level and its title, and its best solution is replaced only by one with fewer pushes
pub record KeepsPage (page after : Page) : Type 0 where
  pub level : after.level ≡ page.level
  pub title : after.title ≡ page.title
  pub best : IfSome page.best (λ best. IsNoWorse page.level best after.best)

-- every command keeps every page in this sense
abbrev pub CommandsKeepPages : Type 0
CommandsKeepPages =
    (book after : Book) (id : ℕ) (page : Page) → OneCommand book after → page_at book id ≡ Some page → IsSomeAnd (page_at after id) (KeepsPage page)

-- in a true book no verdict is withdrawn
abbrev pub VerdictsStay : Type 0
VerdictsStay =
    (book after : Book) (id : ℕ) (page : Page) → IsTrueBook book → OneCommand book after → page_at book id ≡ Some page → page.verdict ≢ Untested
    → IsSomeAnd (page_at after id) (λ next. next.verdict ≡ page.verdict)
