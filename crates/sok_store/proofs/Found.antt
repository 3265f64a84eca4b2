-- The row with an id in the table of a book is that of the page with this id.
use Rattle.std.proofs.Common.{◌≡◌, inl, inr, refl, sym, ap, subst, ◌∙◌, ℕ, zero, suc, ◌+◌, ◌-◌, ◌<◌, ◌≤◌, Option, Some, None, arith}
use Rattle.std.proofs.Common.{List, Result, Ok, Err, IfErr, IfOk, IsNone, IsSomeAnd, length, option_map, slice_get, slice_set}
use Rattle.std.proofs.lemmas.Option.{none-some, same_Some}
use Rattle.sqlite.specs.declared.error.Error.{Error}
use Rattle.sqlite.specs.Order.{Row}
use Rattle.sqlite.specs.State.{State, HasCleanDisk}
use Rattle.sok_book.specs.declared.fault.BookFault.{BookFault}
use Rattle.sok_book.specs.declared.fault.BookFault.TheVariants.{Memory, NoLevel}
use Rattle.sok_book.specs.Books.{Book, Page, PageWithId, page_at}
use Rattle.sok_book.specs.Commands.{level_limit, with_page}
use Rattle.sok_book.specs.Kept.{IsKeptPage}
use Rattle.sok_sql.specs.Causes.{HasTable, IsExcused, IsMemory}
use Rattle.sok_sql.specs.Connections.{Holds, Rests, Stores}
use Rattle.sok_sql.specs.Leaves.{Leaf, shown}
use Rattle.sok_store.specs.Faults.{IsOutside}
use Rattle.sok_store.specs.Rows.{HoldsBook, IsKeptBook, StoresBook, leaf_of, leaves_of}
use Rattle.sok_book.specs.Records.{IsRecordAt}
use Rattle.sok_store.specs.ReadRows.{IsNoRecordIn, IsRecordIn}
use Rattle.sok_store.proofs.KeptBooks.{slice_get-leaves_of}
use Rattle.sok_store.proofs.Leaves.{one_page}
use Rattle.sok_store.specs.Calls.{MakesNone}
use Rattle.sok_store.specs.Running.{RunsReading}
use Rattle.sok_store.proofs.Calls.{held, rests_holds, rests_stops, same_on, stops_same, stores_on}
use Rattle.sok_store.proofs.Caused.{row_told, set_get, told}

-- ---- pages by their ids

pub one_less : (n : ℕ) → suc n - 1 ≡ n
one_less n = omega arith

-- a page that is there, with what is true of it
pub some_of : (o : Option Page) (P : Page → Type 0) → IsSomeAnd o P → (page : Page) × (o ≡ Some page) × P page
some_of None P is = absurd is
some_of (Some page) P is = (page, refl, is)

pub some_and : (o : Option Page) (P : Page → Type 0) (page : Page) → o ≡ Some page → P page → IsSomeAnd o P
some_and o P page at is = subst (λ (x : Option Page). IsSomeAnd x P) (sym at) is

pub kept_at : (book : Book) (id : ℕ) (page : Page) → IsKeptBook book → page_at book id ≡ Some page → IsKeptPage page
kept_at book zero page kept at = absurd (none-some page at)
kept_at book (suc n) page kept at = kept.pages n page at

-- a page that is put at the id of another is there afterwards
pub page_there : (book : Book) (id : ℕ) (page new : Page) → page_at book id ≡ Some page → page_at (with_page book id new) id ≡ Some new
page_there book zero page new there = absurd (none-some page there)
page_there book (suc n) page new there =
    subst (λ k. slice_get (slice_set book k new) n ≡ Some new) (sym (one_less n)) (set_get book n page new there)

-- ---- the row with an id

-- the row is that of the page with this id
pub record IsRowAt (book : Book) (id : ℕ) (row : Row) : Type 0 where
  pub page : Page
  pub at : page_at book id ≡ Some page
  pub kept : IsKeptPage page
  pub row_is : row ≡ shown id (leaf_of page)

shown_of : (id : ℕ) (row : Row) (o : Option Page) → Some row ≡ option_map (shown id) (option_map leaf_of o)
    → (page : Page) × (o ≡ Some page) × (row ≡ shown id (leaf_of page))
shown_of id row None is = absurd (none-some row (sym is))
shown_of id row (Some page) is = (page, refl, same_Some row (shown id (leaf_of page)) is)

none_of : (id : ℕ) (o : Option Page) → None ≡ option_map (shown id) (option_map leaf_of o) → o ≡ None
none_of id None is = refl
none_of id (Some page) is = absurd (none-some (shown id (leaf_of page)) is)

pub row_found : (book : Book) (id : ℕ) (row : Row) → IsKeptBook book → 0 < id
    → ((n : ℕ) → id ≡ 1 + n → Some row ≡ option_map (shown id) (slice_get (leaves_of book) n)) → IsRowAt book id row
row_found book zero row kept low is = absurd (omega (arith, low))
row_found book (suc n) row kept low is =
    let here = is n (omega arith) ∙ ap (option_map (shown (suc n))) (slice_get-leaves_of book n) in
    let (page, at, row_is) = shown_of (suc n) row (slice_get book n) here in
    record { page = page; at = at; kept = kept.pages n page at; row_is = row_is }

pub row_missing : (book : Book) (id : ℕ) → ((n : ℕ) → id ≡ 1 + n → None ≡ option_map (shown id) (slice_get (leaves_of book) n))
    → IsNone (page_at book id)
row_missing book zero is = refl
row_missing book (suc n) is =
    let here = is n (omega arith) ∙ ap (option_map (shown (suc n))) (slice_get-leaves_of book n) in
    subst (λ (o : Option Page). IsNone o) (sym (none_of (suc n) (slice_get book n) here)) refl

-- so the record of the row is that of the page with the id
pub record_read : (book : Book) (id : ℕ) (row : Row) → IsRowAt book id row → (kept : PageWithId) → IsRecordIn id row kept → IsRecordAt book id kept
record_read book id row at kept is =
    let same = one_page id id kept.page at.page is.kept at.kept (sym is.row_is ∙ at.row_is) in
    record { id_is = is.id_is; there = at.at ∙ ap Some (sym same) }

-- and so no row of a book is a bad one
pub record_refused : (book : Book) (id : ℕ) (row : Row) → IsRowAt book id row → (fault : BookFault) → IsNoRecordIn id row fault → IsOutside fault
record_refused book id row at fault (inl memory) = inl memory
record_refused book id row at fault (inr bad) = absurd (bad.1 at.page at.kept at.row_is)

-- ---- what is answered of it

module _ (old new : State) (id : ℕ) (low : 0 < id) (rests : Rests old new) where
  before : id ≡ 1 + (id - 1)
  before = omega (arith, low)

  module _ (row : Row) (shows : HasCleanDisk new → (leaves : List Leaf) (index : ℕ) → Holds old leaves → id ≡ 1 + index
      → Stores new leaves × (Some row ≡ option_map (shown id) (slice_get leaves index))) where
    row_in : HasCleanDisk new → (book : Book) → HoldsBook old book → IsRowAt book id row × StoresBook new book
    row_in clean book holds = (
      row_found book id row holds.0 low (λ n is. (shows clean (leaves_of book) n holds.1 is).1),
      (holds.0, (shows clean (leaves_of book) (id - 1) holds.1 before).0),
    )

    pub row_reads : (result : Result PageWithId BookFault) → IfOk result (IsRecordIn id row) → IfErr result (IsNoRecordIn id row)
        → RunsReading old new id result
    row_reads (Ok kept) read broken = record {
      found = λ clean book holds. let (at, shows_book) = row_in clean book holds in (record_read book id row at kept read, shows_book);
      refused = tt;
      shows = tt;
      stop = rests_stops old new rests MakesNone;
      cause = tt;
    }
    row_reads (Err fault) read broken = record {
      found = tt;
      refused = λ clean book holds.
          let (at, shows_book) = row_in clean book holds in (inl (record_refused book id row at fault broken), held new book shows_book);
      shows = stores_on old new fault (λ clean book holds. (row_in clean book holds).1);
      stop = rests_stops old new rests MakesNone;
      cause = row_told old new MakesNone fault _ _ broken;
    }

  pub row_misses : (HasCleanDisk new → (leaves : List Leaf) (index : ℕ) → Holds old leaves → id ≡ 1 + index
      → Stores new leaves × (None ≡ option_map (shown id) (slice_get leaves index))) → RunsReading old new id (Err NoLevel)
  row_misses shows = record {
    found = tt;
    refused = λ clean book holds. (
      inr (refl, row_missing book id (λ n is. (shows clean (leaves_of book) n holds.1 is).1)),
      (holds.0, λ _. (shows clean (leaves_of book) (id - 1) holds.1 before).0.1),
    );
    shows = stores_on old new NoLevel (λ clean book holds. (holds.0, (shows clean (leaves_of book) (id - 1) holds.1 before).0));
    stop = rests_stops old new rests MakesNone;
    cause = λ database. absurd cc;
  }

  pub row_unread : (error : Error) (fault : BookFault) → IsOutside fault → (IsMemory error → fault ≡ Memory)
      → (HasCleanDisk new → HasTable old → IsExcused old new error) → RunsReading old new id (Err fault)
  row_unread error fault outside memory why = record {
    found = tt;
    refused = λ clean book holds. (inl outside, rests_holds old new rests clean book holds);
    shows = inl outside;
    stop = rests_stops old new rests MakesNone;
    cause = told old new MakesNone error fault memory (λ clean book holds. why clean (λ up. (holds.1 up).schema));
  }

-- an id that is that of no page
pub reads_nowhere : (s : State) (id : ℕ) → ((book : Book) → length book ≤ level_limit → IsNone (page_at book id)) → RunsReading s s id (Err NoLevel)
reads_nowhere s id none = record {
  found = tt;
  refused = λ clean book holds. (inr (refl, none book holds.0.few), holds);
  shows = same_on s NoLevel;
  stop = stops_same s MakesNone;
  cause = λ database. absurd cc;
}

-- the page that is read
pub page_read : (old new : State) (id : ℕ) (kept : PageWithId) → RunsReading old new id (Ok kept) → HasCleanDisk new
    → (book : Book) → HoldsBook old book → (page_at book id ≡ Some kept.page) × IsKeptPage kept.page × StoresBook new book
page_read old new id kept read clean book holds =
    let (at, shows) = read.found clean book holds in
    (at.there, kept_at book id kept.page holds.0 at.there, shows)
