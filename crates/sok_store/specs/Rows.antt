-- The values of a page in a row of the table, besides its id, and a book as the rows of the table.
use Rattle.std.specs.Prelude.{ℕ, ◌≡◌, ◌≤◌, List, Some, length, map, option_map, slice_get}
use Rattle.sqlite.specs.State.{State}
use Rattle.sqlite.specs.Tree.{Trees}
use Rattle.sok_text.specs.Canonical.{level_text}
use Rattle.sok_book.specs.declared.record.Verdict.{Verdict}
use Rattle.sok_book.specs.declared.record.Verdict.TheVariants.{Untested, Optimal, Unsolvable}
use Rattle.sok_book.specs.Books.{Book, Page, Solution}
use Rattle.sok_book.specs.Commands.{level_limit}
use Rattle.sok_book.specs.Kept.{IsKeptPage}
use Rattle.sok_book.specs.Texts.{lurd_of}
use Rattle.sok_sql.specs.Connections.{Holds, Shows, Stores}
use Rattle.sok_sql.specs.Leaves.{Leaf, HasLeaves}

abbrev pub verdict_number : Verdict → ℕ
verdict_number Untested = 0
verdict_number Optimal = 1
verdict_number Unsolvable = 2

-- the canonical text of the level, its title, the marked text of its best solution with its pushes and moves, if there is one, and its verdict
abbrev pub leaf_of : Page → Leaf
leaf_of page = record {
  text = level_text page.level;
  title = page.title;
  lurd = option_map (λ (best : Solution). lurd_of page.level best.letters) page.best;
  pushes = option_map (λ (best : Solution). best.pushes) page.best;
  moves = option_map (λ (best : Solution). best.moves) page.best;
  verdict = verdict_number page.verdict;
}

abbrev pub leaves_of : Book → List Leaf
leaves_of = map leaf_of

-- each page may be kept, no level occurs twice, and there are at most 10,000
pub record IsKeptBook (book : Book) : Type 0 where
  pub pages : (n : ℕ) (page : Page) → slice_get book n ≡ Some page → IsKeptPage page
  pub once : (m n : ℕ) (page other : Page) → slice_get book m ≡ Some page → slice_get book n ≡ Some other → page.level ≡ other.level → m ≡ n
  pub few : length book ≤ level_limit

-- the table holds exactly this book
abbrev pub HasBook : Trees → Book → Type 0
HasBook db book = IsKeptBook book × HasLeaves db (leaves_of book)

-- the connection shows this book, and so does the last commit
abbrev pub ShowsBook : State → Book → Type 0
ShowsBook s book = IsKeptBook book × Shows s (leaves_of book)

-- the same, and the connection is open
abbrev pub StoresBook : State → Book → Type 0
StoresBook s book = IsKeptBook book × Stores s (leaves_of book)

-- the same, unless a failure of the disk has shut the connection
abbrev pub HoldsBook : State → Book → Type 0
HoldsBook s book = IsKeptBook book × Holds s (leaves_of book)
