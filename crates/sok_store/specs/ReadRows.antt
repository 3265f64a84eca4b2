-- What has been read of the rows of a table.
use Rattle.std.specs.Prelude.{ℕ, pos, ◌≡◌, ◌≢◌, ◌⊎◌, List, Bool, bytes_eq}
use Rattle.std.specs.List.{list_any}
use Rattle.sqlite.specs.Order.{Row, column}
use Rattle.sok_text.specs.Canonical.{level_text}
use Rattle.sok_book.specs.declared.fault.BookFault.{BookFault}
use Rattle.sok_book.specs.declared.fault.BookFault.TheVariants.{BadBook, Memory}
use Rattle.sok_book.specs.Books.{Book, Page, PageWithId}
use Rattle.sok_book.specs.Kept.{IsKeptPage}
use Rattle.sok_book.specs.Records.{AreRecordsOf}
use Rattle.sok_sql.specs.Leaves.{shown}
use Rattle.sok_store.specs.BadRows.{id_or_place}
use Rattle.sok_store.specs.Rows.{IsKeptBook, leaf_of}

-- whether a level of the book has this text
abbrev pub has_text : Book → List ℕ → Bool
has_text book text = list_any (λ (page : Page). bytes_eq (level_text page.level) text) book

-- the records of a book that may be kept, and the texts of its levels as a test
pub record IsRead (book : Book) (records : List PageWithId) (has : List ℕ → Bool) : Type 0 where
  pub kept : IsKeptBook book
  pub records_are : AreRecordsOf book records
  pub texts_are : (text : List ℕ) → has text ≡ has_text book text

-- the record of a row whose id is its place; the row holds a page that may be kept
pub record IsRecordIn (place : ℕ) (row : Row) (found : PageWithId) : Type 0 where
  pub id_is : found.id ≡ pos place
  pub kept : IsKeptPage found.page
  pub row_is : row ≡ shown place (leaf_of found.page)

-- memory was refused; or the fault names the row, which holds no page that may be kept
abbrev pub IsNoRecordIn : ℕ → Row → BookFault → Type 0
IsNoRecordIn place row fault =
    (fault ≡ Memory) ⊎ ((fault ≡ BadBook (id_or_place place (column row 0))) × ((page : Page) → IsKeptPage page → row ≢ shown place (leaf_of page)))
