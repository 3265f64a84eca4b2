-- The first row of a table that breaks the rules of a book.
use Rattle.std.specs.Prelude.{ℕ, ℤ, pos, ◌≡◌, ◌+◌, ◌<◌, List, ◌∷◌, ◌++◌, length}
use Rattle.sqlite.specs.declared.types.Value.{Value}
use Rattle.sqlite.specs.declared.types.Value.TheVariants.{Int}
use Rattle.sqlite.specs.Order.{Row, column}
use Rattle.sok_book.specs.Books.{Book, Page}
use Rattle.sok_book.specs.Commands.{IsUnknown, level_limit}
use Rattle.sok_book.specs.Kept.{IsKeptPage}
use Rattle.sok_sql.specs.Leaves.{ListsTable, shown, shown_from}
use Rattle.sok_store.specs.Rows.{IsKeptBook, leaf_of, leaves_of}

-- the id of a row, or its place if the id is no whole number
abbrev pub id_or_place : ℕ → Value → ℤ
id_or_place place (Int id) = id
id_or_place place _ = pos place

-- the row holds a page with the next id; the page may be kept, its level is not in the book yet, and the book has room
pub record Follows (book : Book) (row : Row) (page : Page) : Type 0 where
  pub row_is : row ≡ shown (length book + 1) (leaf_of page)
  pub kept : IsKeptPage page
  pub unknown : IsUnknown book page.level
  pub room : length book < level_limit

-- the first rows are those of a book, and the next one can't follow them; this is its id, or its place
pub record IsFirstBad (rows : List Row) (id : ℤ) : Type 0 where
  pub book : Book
  pub bad : Row
  pub rest : List Row
  pub split : rows ≡ shown_from 1 (leaves_of book) ++ bad ∷ rest
  pub kept : IsKeptBook book
  pub id_is : id ≡ id_or_place (length book + 1) (column bad 0)
  pub broken : (page : Page) → Follows book bad page → ⊥

-- the same of the rows of a table, in order of their ids
pub record IsBadTable (table : List Row) (id : ℤ) : Type 0 where
  pub rows : List Row
  pub lists : ListsTable table rows
  pub first : IsFirstBad rows id
