-- Records of the pages of a book.
use Rattle.std.specs.Prelude.{ℕ, pos, ◌≡◌, ◌+◌, List, [], ◌∷◌, Some, map}
use Rattle.sok_book.specs.Books.{Book, Page, PageWithId, page_at}

abbrev pub with_id : ℕ → Page → PageWithId
with_id id page = record { id = pos id; page = page }

-- the pages with their ids, which count from this one
abbrev pub pages_from : ℕ → Book → List PageWithId
pages_from id [] = []
pages_from id (page ∷ more) = with_id id page ∷ pages_from (id + 1) more

-- the pages without their ids
abbrev pub pages_of : List PageWithId → List Page
pages_of = map (λ (kept : PageWithId). kept.page)

-- the records of a book, in order of their ids
abbrev pub AreRecordsOf : Book → List PageWithId → Type 0
AreRecordsOf book records = records ≡ pages_from 1 book

-- the record of the page with an id
pub record IsRecordAt (book : Book) (id : ℕ) (kept : PageWithId) : Type 0 where
  pub id_is : kept.id ≡ pos id
  pub there : page_at book id ≡ Some kept.page
