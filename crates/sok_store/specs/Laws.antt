-- A row holds at most one page, and rows hold at most one book or have one first bad row.
use Rattle.std.specs.Prelude.{ℕ, ℤ, ◌≡◌, List}
use Rattle.sqlite.specs.Order.{Row}
use Rattle.sok_rules.specs.Limits.{size_limit}
use Rattle.sok_board.specs.Limits.{square_limit}
use Rattle.sok_book.specs.Books.{Book, Page}
use Rattle.sok_book.specs.Kept.{IsKeptPageIn}
use Rattle.sok_sql.specs.Leaves.{Leaf, shown_from}
use Rattle.sok_store.specs.Rows.{IsKeptBook, leaf_of, leaves_of}
use Rattle.sok_store.specs.BadRows.{IsFirstBad}

-- a row holds a page that may be kept, within these limits
pub record IsLeafOfIn (size squares : ℕ) (page : Page) (leaf : Leaf) : Type 0 where
  pub kept : IsKeptPageIn size squares page
  pub leaf_is : leaf ≡ leaf_of page

abbrev pub IsLeafOf : Page → Leaf → Type 0
IsLeafOf page leaf = IsLeafOfIn size_limit square_limit page leaf

-- a row holds at most one page
abbrev pub RowsHaveOnePage : Type 0
RowsHaveOnePage = (page other : Page) (leaf : Leaf) → IsLeafOf page leaf → IsLeafOf other leaf → page ≡ other

-- a row that was valid while levels had at most 64 rows and columns, and areas of at most 1,024 squares, is still valid
abbrev pub RowsKeptBeforeAreKept : Type 0
RowsKeptBeforeAreKept = (page : Page) (leaf : Leaf) → IsLeafOfIn 64 1024 page leaf → IsLeafOf page leaf

-- the rows are exactly those of a book
pub record AreRowsOf (rows : List Row) (book : Book) : Type 0 where
  pub kept : IsKeptBook book
  pub rows_are : rows ≡ shown_from 1 (leaves_of book)

-- rows hold at most one book
abbrev pub RowsHaveOneBook : Type 0
RowsHaveOneBook = (rows : List Row) (book other : Book) → AreRowsOf rows book → AreRowsOf rows other → book ≡ other

-- if rows hold a book, none of them is bad
abbrev pub BadRowsHaveNoBook : Type 0
BadRowsHaveNoBook = (rows : List Row) (id : ℤ) (book : Book) → IsFirstBad rows id → AreRowsOf rows book → ⊥

-- no two ids are those of a first bad row
abbrev pub OneRowIsFirstBad : Type 0
OneRowIsFirstBad = (rows : List Row) (id other : ℤ) → IsFirstBad rows id → IsFirstBad rows other → id ≡ other
