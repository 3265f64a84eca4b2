-- What has been read of rows, with one row more.
use Rattle.std.proofs.Common.{◌≡◌, ◌≢◌, ◌⊎◌, ◌||◌, inl, inr, refl, sym, ap, subst, ◌∙◌, ℕ, ℤ, zero, suc, ◌+◌, ◌<◌, ◌≤◌, pos, List, [], ◌∷◌, ◌++◌}
use Rattle.std.proofs.Common.{arith, bytes_eq, get_or, length, slice_get, All, Bool, true, false, Some}
use Rattle.std.proofs.lemmas.Option.{none-some, same_Some}
use Rattle.std.proofs.lemmas.Slice.Eq.{bytes_eq-Decides}
use Rattle.sqlite.specs.Order.{Row, column}
use Rattle.sok_text.specs.Canonical.{level_text}
use Rattle.sok_book.specs.declared.fault.BookFault.{BookFault}
use Rattle.sok_book.specs.declared.fault.BookFault.TheVariants.{BadBook, Memory}
use Rattle.sok_book.specs.Books.{Book, Page, PageWithId}
use Rattle.sok_book.specs.Commands.{IsUnknown, level_limit}
use Rattle.sok_book.specs.Kept.{IsKeptPage}
use Rattle.sok_book.proofs.Texts.{one_level}
use Rattle.sok_sql.specs.Leaves.{Leaf, shown, shown_from}
use Rattle.sok_store.specs.Rows.{IsKeptBook, leaf_of, leaves_of}
use Rattle.sok_store.specs.BadRows.{Follows, IsFirstBad, id_or_place}
use Rattle.sok_store.specs.ReadRows.{IsNoRecordIn, IsRead, IsRecordIn, has_text}
use Rattle.sok_book.specs.Records.{AreRecordsOf, pages_from, with_id}
use Rattle.sok_store.proofs.KeptBooks.{IsKeptBook-push, leaves_of-push, length-leaves_of, place-from, stands-from}
use Rattle.sok_store.proofs.Leaves.{one_page}

-- ---- lists whose ids count on

shown_from-push : (from : ℕ) (leaves : List Leaf) (last : Leaf)
    → shown_from from (leaves ++ last ∷ []) ≡ shown_from from leaves ++ shown (from + length leaves) last ∷ []
shown_from-push from [] last = let place : from ≡ from + 0 = omega arith in ap (λ n. shown n last ∷ []) place
shown_from-push from (leaf ∷ more) last =
    let place : (from + 1) + length more ≡ from + suc (length more) = omega arith in
    ap (λ rows. shown from leaf ∷ rows) (shown_from-push (from + 1) more last ∙ ap (λ n. shown_from (from + 1) more ++ shown n last ∷ []) place)

pages_from-push : (from : ℕ) (book : Book) (last : Page)
    → pages_from from (book ++ last ∷ []) ≡ pages_from from book ++ with_id (from + length book) last ∷ []
pages_from-push from [] last = let place : from ≡ from + 0 = omega arith in ap (λ n. with_id n last ∷ []) place
pages_from-push from (page ∷ more) last =
    let place : (from + 1) + length more ≡ from + suc (length more) = omega arith in
    ap (λ pages. with_id from page ∷ pages) (pages_from-push (from + 1) more last ∙ ap (λ n. pages_from (from + 1) more ++ with_id n last ∷ []) place)

length-pages_from : (from : ℕ) (book : Book) → length (pages_from from book) ≡ length book
length-pages_from from [] = refl
length-pages_from from (page ∷ more) = ap suc (length-pages_from (from + 1) more)

pub length-records : (book : Book) (records : List PageWithId) → AreRecordsOf book records → length records ≡ length book
length-records book records are = ap length are ∙ length-pages_from 1 book

-- the page of a record is one of the book
page_in : (from : ℕ) (book : Book) (n : ℕ) (d : PageWithId) → n < length book
    → (page : Page) × (slice_get book n ≡ Some page) × ((get_or (pages_from from book) n d).page ≡ page)
page_in from [] n d within = absurd (omega (arith, within))
page_in from (page ∷ more) zero d within = (page, refl, refl)
page_in from (page ∷ more) (suc n) d within = page_in (from + 1) more n d (omega (arith, within))

-- so it may be kept
pub all-kept : (book : Book) → IsKeptBook book → (records : List PageWithId) → AreRecordsOf book records
    → All (λ (kept : PageWithId). IsKeptPage kept.page) records
all-kept book kept records are n d within =
    let long = length-records book records are in
    let (page, at, is) = page_in 1 book n d (omega (arith, within, long)) in
    let same : (get_or records n d).page ≡ page = ap (λ (rs : List PageWithId). (get_or rs n d).page) are ∙ is in
    subst IsKeptPage (sym same) (kept.pages n page at)

-- ---- which texts a book has

has_page : (book : Book) (text : List ℕ) → has_text book text ≡ true
    → (n : ℕ) × (page : Page) × (slice_get book n ≡ Some page) × (level_text page.level ≡ text)
has_page [] text has = absurd cc
has_page (page ∷ more) text has = go (bytes_eq (level_text page.level) text) refl (has_page more text) has
  where
    go : (same : Bool) → bytes_eq (level_text page.level) text ≡ same
        → (has_text more text ≡ true → (n : ℕ) × (p : Page) × (slice_get more n ≡ Some p) × (level_text p.level ≡ text))
        → (same || has_text more text) ≡ true
        → (n : ℕ) × (p : Page) × (slice_get (page ∷ more) n ≡ Some p) × (level_text p.level ≡ text)
    go true same on is = (0, page, refl, (bytes_eq-Decides (level_text page.level) text).0 same)
    go false same on is = let (n, p, at, text_is) = on is in (suc n, p, at, text_is)

has_not : (book : Book) (text : List ℕ) (n : ℕ) (page : Page) → has_text book text ≡ false → slice_get book n ≡ Some page → level_text page.level ≢ text
has_not [] text n page has at same = absurd (none-some page at)
has_not (first ∷ more) text n page has at same =
    go (bytes_eq (level_text first.level) text) refl (λ is k here. has_not more text k page is here same) has n at
  where
    go : (test : Bool) → bytes_eq (level_text first.level) text ≡ test
        → (has_text more text ≡ false → (k : ℕ) → slice_get more k ≡ Some page → ⊥) → (test || has_text more text) ≡ false
        → (n : ℕ) → slice_get (first ∷ more) n ≡ Some page → ⊥
    go true test on is n here = absurd cc
    go false test on is zero here =
        let equal = (bytes_eq-Decides (level_text first.level) text).1 (ap (λ (p : Page). level_text p.level) (same_Some first page here) ∙ same) in
        absurd cc
    go false test on is (suc n) here = on is n here

or_swap : (x y z : Bool) → (x || (y || z)) ≡ (y || (x || z))
or_swap true true z = refl
or_swap true false z = refl
or_swap false y z = refl

has_text-push : (book : Book) (page : Page) (text : List ℕ)
    → has_text (book ++ page ∷ []) text ≡ (bytes_eq (level_text page.level) text || has_text book text)
has_text-push [] page text = refl
has_text-push (first ∷ more) page text =
    let same = bytes_eq (level_text first.level) text in
    ap (λ b. same || b) (has_text-push more page text) ∙ or_swap same (bytes_eq (level_text page.level) text) (has_text more text)

-- a level whose text is not there does not stand in the book
new_unknown : (book : Book) (page : Page) → has_text book (level_text page.level) ≡ false → IsUnknown book page.level
new_unknown book page has id stands =
    let (n, other, id_is, found) = place-from book page.level id stands in
    has_not book (level_text page.level) n other has found.there (ap level_text found.level)

-- ---- one row more

abbrev pub Gives : Book → Row → List PageWithId → (List ℕ → Bool) → Type 0
Gives book row records has = (page : Page) × Follows book row page × IsRead (book ++ page ∷ []) records has

module _ (book : Book) (row : Row) (records : List PageWithId) (has : List ℕ → Bool) (read : IsRead book records has) where
  as_long : length records ≡ length book
  as_long = length-records book records read.records_are

  row_in_book : (page : Page) → row ≡ shown (length records + 1) (leaf_of page) → row ≡ shown (length book + 1) (leaf_of page)
  row_in_book page is = is ∙ ap (λ n. shown (n + 1) (leaf_of page)) as_long

  row_of_next : (page : Page) → Follows book row page → row ≡ shown (length records + 1) (leaf_of page)
  row_of_next page follows = follows.row_is ∙ ap (λ n. shown (n + 1) (leaf_of page)) (sym as_long)

  named_in_book : id_or_place (length records + 1) (column row 0) ≡ id_or_place (length book + 1) (column row 0)
  named_in_book = ap (λ n. id_or_place (n + 1) (column row 0)) as_long

  module _ (kept : PageWithId) (next : IsRecordIn (length records + 1) row kept) where
    next_is : kept ≡ with_id (1 + length book) kept.page
    next_is =
        let place : length records + 1 ≡ 1 + length book = omega (arith, as_long) in
        let id : kept.id ≡ pos (1 + length book) = next.id_is ∙ ap pos place in
        λ i. record { id = id i; page = kept.page }

    read_more : (after : List ℕ → Bool) → length records < level_limit → has (level_text kept.page.level) ≡ false
        → ((text : List ℕ) → after text ≡ (bytes_eq (level_text kept.page.level) text || has text)) → Gives book row (records ++ kept ∷ []) after
    read_more after few fresh texts =
        let page = kept.page in
        let unknown = new_unknown book page (sym (read.texts_are (level_text page.level)) ∙ fresh) in
        let room : length book < level_limit = omega (arith, few, as_long) in (
          page,
          record { row_is = row_in_book page next.row_is; kept = next.kept; unknown = unknown; room = room },
          record {
            kept = IsKeptBook-push book page read.kept next.kept unknown room;
            records_are = ap (λ (rs : List PageWithId). rs ++ kept ∷ []) read.records_are
                ∙ ap (λ (k : PageWithId). pages_from 1 book ++ k ∷ []) next_is
                ∙ sym (pages_from-push 1 book page);
            texts_are = λ text. texts text ∙ ap (λ b. bytes_eq (level_text page.level) text || b) (read.texts_are text)
                ∙ sym (has_text-push book page text);
          },
        )

    none_follows : has (level_text kept.page.level) ≡ true → (other : Page) → Follows book row other → ⊥
    none_follows there other follows =
        let page = kept.page in
        let place = length records + 1 in
        let same = one_page place place page other next.kept follows.kept (sym next.row_is ∙ row_of_next other follows) in
        let (n, first, at, text) = has_page book (level_text page.level) (sym (read.texts_are (level_text page.level)) ∙ there) in
        let level = one_level first.level page.level (read.kept.pages n first at).level next.kept.level text in
        follows.unknown (suc n) (stands-from book other.level n first at (level ∙ ap (λ (p : Page). p.level) same))

-- ---- a row that cannot follow

-- memory was refused; or the fault names the row, and it can follow no book of which this has been read
abbrev pub Refuses : List PageWithId → (List ℕ → Bool) → Row → BookFault → Type 0
Refuses records has row fault = (fault ≡ Memory) ⊎ ((book : Book) → IsRead book records has
    → (fault ≡ BadBook (id_or_place (length book + 1) (column row 0))) × ((page : Page) → Follows book row page → ⊥))

module _ (records : List PageWithId) (has : List ℕ → Bool) (row : Row) where
  -- no page that may be kept has this row
  pub Refuses-unread : (fault : BookFault) → IsNoRecordIn (length records + 1) row fault → Refuses records has row fault
  Refuses-unread fault (inl memory) = inl memory
  Refuses-unread fault (inr (is, none)) = inr (λ book read. (
    is ∙ ap BadBook (named_in_book book row records has read),
    λ page follows. none page follows.kept (row_of_next book row records has read page follows),
  ))

  module _ (kept : PageWithId) (next : IsRecordIn (length records + 1) row kept) where
    -- there is no room, or its level stands there already
    pub Refuses-next : (fault : BookFault) → (fault ≡ Memory) ⊎ ((fault ≡ BadBook (pos (length records + 1)))
        × ((level_limit < length records + 1) ⊎ (has (level_text kept.page.level) ≡ true))) → Refuses records has row fault
    Refuses-next fault (inl memory) = inl memory
    Refuses-next fault (inr (is, cause)) = inr (λ book read.
        let named = ap (λ r. id_or_place (length records + 1) (column r 0)) next.row_is in (
          is ∙ ap BadBook (sym named ∙ named_in_book book row records has read),
          λ other follows. elim cause [
            | inl full ↦ let long = as_long book row records has read in omega (arith, full, long, follows.room)
            | inr there ↦ none_follows book row records has read kept next there other follows
          ],
        ))

    -- a row that can
    pub Gives-next : (after : List ℕ → Bool) → length records + 1 ≤ level_limit → has (level_text kept.page.level) ≡ false
        → ((text : List ℕ) → after text ≡ (bytes_eq (level_text kept.page.level) text || has text))
        → (book : Book) → IsRead book records has → Gives book row (records ++ kept ∷ []) after
    Gives-next after few fresh texts book read = read_more book row records has read kept next after (omega (arith, few)) fresh texts

-- ---- all rows

pub rows-push : (front : List Row) (row : Row) (book : Book) (page : Page) → front ≡ shown_from 1 (leaves_of book) → Follows book row page
    → front ++ row ∷ [] ≡ shown_from 1 (leaves_of (book ++ page ∷ []))
rows-push front row book page are follows =
    let place : length book + 1 ≡ 1 + length (leaves_of book) = let long = length-leaves_of book in omega (arith, long) in
    ap (λ rows. rows ++ row ∷ []) are
    ∙ ap (λ r. shown_from 1 (leaves_of book) ++ r ∷ []) (follows.row_is ∙ ap (λ n. shown n (leaf_of page)) place)
    ∙ sym (shown_from-push 1 (leaves_of book) (leaf_of page)) ∙ ap (shown_from 1) (sym (leaves_of-push book page))

pub IsFirstBad-here : (rows front rest : List Row) (row : Row) (book : Book) (records : List PageWithId) (has : List ℕ → Bool) (fault : BookFault)
    → rows ≡ front ++ row ∷ rest → front ≡ shown_from 1 (leaves_of book) → IsRead book records has → Refuses records has row fault
    → (fault ≡ Memory) ⊎ ((id : ℤ) × (fault ≡ BadBook id) × IsFirstBad rows id)
IsFirstBad-here rows front rest row book records has fault split are read (inl memory) = inl memory
IsFirstBad-here rows front rest row book records has fault split are read (inr bad) =
    let (is, broken) = bad book read in
    inr (
      id_or_place (length book + 1) (column row 0),
      is,
      record {
        book = book;
        bad = row;
        rest = rest;
        split = split ∙ ap (λ f. f ++ row ∷ rest) are;
        kept = read.kept;
        id_is = refl;
        broken = broken;
      },
    )
