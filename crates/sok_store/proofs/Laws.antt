-- Rows are of one book at most, or one of them is the first that is bad.
use Rattle.std.proofs.Common.{◌≡◌, refl, sym, ap, subst, ◌∙◌, ℕ, zero, suc, ◌+◌, ◌<◌, ◌≤◌, List, [], ◌∷◌, ◌++◌, Some, arith}
use Rattle.std.proofs.Common.{append-nil, length, length-append, nat_lt, slice_get, Bool, true, false}
use Rattle.std.proofs.lemmas.Option.{none-some, slice_get_within}
use Rattle.std.proofs.lemmas.Bool.Decides.{nat_tests}
use Rattle.sqlite.specs.Order.{Row, column}
use Rattle.sok_book.specs.Books.{Book, Page}
use Rattle.sok_book.specs.Kept.{IsKeptPage}
use Rattle.sok_sql.specs.Leaves.{shown, shown_from}
use Rattle.sok_store.specs.Rows.{IsKeptBook, leaf_of, leaves_of}
use Rattle.sok_store.specs.Laws.{BadRowsHaveNoBook, OneRowIsFirstBad, RowsHaveOneBook}
use Rattle.sok_store.specs.BadRows.{Follows, id_or_place}
use Rattle.sok_store.proofs.KeptBooks.{place-from}
use Rattle.sok_store.proofs.Leaves.{one_page}

-- the pages of a book may be kept, whether or not a level stands there twice
abbrev AreKept : Book → Type 0
AreKept book = (n : ℕ) (page : Page) → slice_get book n ≡ Some page → IsKeptPage page

later : (page : Page) (more : Book) → AreKept (page ∷ more) → AreKept more
later page more kept n other at = kept (suc n) other at

same_head : {X : Type 0} (x y : X) (xs ys : List X) → x ∷ xs ≡ y ∷ ys → x ≡ y
same_head x y xs ys e = cc

same_tail : {X : Type 0} (x y : X) (xs ys : List X) → x ∷ xs ≡ y ∷ ys → xs ≡ ys
same_tail x y xs ys e = cc

-- ---- one book

one_book : (from : ℕ) (book other : Book) → AreKept book → AreKept other → shown_from from (leaves_of book) ≡ shown_from from (leaves_of other) → book ≡ other
one_book from [] [] kept of_other same = refl
one_book from [] (twin ∷ others) kept of_other same = absurd cc
one_book from (page ∷ more) [] kept of_other same = absurd cc
one_book from (page ∷ more) (twin ∷ others) kept of_other same =
    let first : page ≡ twin = one_page from from page twin (kept 0 page refl) (of_other 0 twin refl) (same_head _ _ _ _ same) in
    let rest : more ≡ others = one_book (from + 1) more others (later page more kept) (later twin others of_other) (same_tail _ _ _ _ same) in
    λ i. first i ∷ rest i

pub rows-have-one-book : RowsHaveOneBook
rows-have-one-book rows book other are of_other =
    one_book 1 book other are.kept.pages of_other.kept.pages (sym are.rows_are ∙ of_other.rows_are)

-- ---- a row after those of a shorter book

-- a longer book goes on with a page, whose row this is
record GoesOn (from : ℕ) (first book : Book) (bad : Row) : Type 0 where
  page : Page
  more : Book
  book_is : book ≡ first ++ page ∷ more
  row_is : bad ≡ shown (from + length first) (leaf_of page)

goes_on : (from : ℕ) (first book : Book) (bad : Row) (rest tail : List Row) → AreKept first → AreKept book → length first < length book
    → shown_from from (leaves_of book) ++ tail ≡ shown_from from (leaves_of first) ++ bad ∷ rest → GoesOn from first book bad
goes_on from first [] bad rest tail kept of_book long same = absurd (omega (arith, long))
goes_on from [] (page ∷ more) bad rest tail kept of_book long same =
    let place : from ≡ from + 0 = omega arith in
    record { page = page; more = more; book_is = refl; row_is = sym (same_head _ _ _ _ same) ∙ ap (λ n. shown n (leaf_of page)) place }
goes_on from (twin ∷ others) (page ∷ more) bad rest tail kept of_book long same =
    let head : page ≡ twin = one_page from from page twin (of_book 0 page refl) (kept 0 twin refl) (same_head _ _ _ _ same) in
    let on = goes_on (from + 1) others more bad rest tail (later twin others kept) (later page more of_book) (omega (arith, long)) (same_tail _ _ _ _ same) in
    let place : (from + 1) + length others ≡ from + suc (length others) = omega arith in
    record {
      page = on.page;
      more = on.more;
      book_is = λ i. head i ∷ on.book_is i;
      row_is = on.row_is ∙ ap (λ n. shown n (leaf_of on.page)) place;
    }

at_end : (first more : Book) (page : Page) → slice_get (first ++ page ∷ more) (length first) ≡ Some page
at_end [] more page = refl
at_end (twin ∷ others) more page = at_end others more page

before_end : (first rest : Book) (n : ℕ) (page : Page) → slice_get first n ≡ Some page → slice_get (first ++ rest) n ≡ Some page
before_end [] rest n page at = absurd (none-some page at)
before_end (twin ∷ others) rest zero page at = at
before_end (twin ∷ others) rest (suc n) page at = before_end others rest n page at

-- the page of a longer book follows the pages before it
follows_in : (first more : Book) (page : Page) (bad : Row) → IsKeptBook (first ++ page ∷ more) → bad ≡ shown (1 + length first) (leaf_of page)
    → Follows first bad page
follows_in first more page bad kept row_is =
    let long = length-append first (page ∷ more) in
    let place : 1 + length first ≡ length first + 1 = omega arith in
    record {
      row_is = row_is ∙ ap (λ n. shown n (leaf_of page)) place;
      kept = kept.pages (length first) page (at_end first more page);
      unknown = λ id stands.
          let (n, twin, id_is, found) = place-from first page.level id stands in
          let here = kept.once n (length first) twin page (before_end first (page ∷ more) n twin found.there) (at_end first more page) found.level in
          let within = slice_get_within first n twin found.there in
          absurd (omega (arith, here, within));
      room = omega (arith, kept.few, long);
    }

goes_wrong : (first book : Book) (bad : Row) → GoesOn 1 first book bad → IsKeptBook book → ((page : Page) → Follows first bad page → ⊥) → ⊥
goes_wrong first book bad on kept broken =
    broken on.page (follows_in first on.more on.page bad (subst IsKeptBook on.book_is kept) on.row_is)

-- so a bad row after the rows of a book is in no longer one
no_longer : (first book : Book) (bad : Row) (rest tail : List Row) → IsKeptBook first → IsKeptBook book
    → shown_from 1 (leaves_of book) ++ tail ≡ shown_from 1 (leaves_of first) ++ bad ∷ rest → ((page : Page) → Follows first bad page → ⊥)
    → length book ≤ length first
no_longer first book bad rest tail kept of_book same broken = go (nat_lt (length first) (length book)) refl
  where
    go : (longer : Bool) → nat_lt (length first) (length book) ≡ longer → length book ≤ length first
    go true longer =
        let on = goes_on 1 first book bad rest tail kept.pages of_book.pages (grind (arith, nat_tests, longer)) same in
        absurd (goes_wrong first book bad on of_book broken)
    go false longer = grind (arith, nat_tests, longer)

length-shown_from : (from : ℕ) (book : Book) → length (shown_from from (leaves_of book)) ≡ length book
length-shown_from from [] = refl
length-shown_from from (page ∷ more) = ap suc (length-shown_from (from + 1) more)

pub bad-rows-have-no-book : BadRowsHaveNoBook
bad-rows-have-no-book rows id book bad are =
    let same : shown_from 1 (leaves_of book) ++ [] ≡ shown_from 1 (leaves_of bad.book) ++ bad.bad ∷ bad.rest =
    append-nil (shown_from 1 (leaves_of book)) ∙ sym are.rows_are ∙ bad.split in
    let short = no_longer bad.book book bad.bad bad.rest [] bad.kept are.kept same bad.broken in
    let long = sym (length-shown_from 1 book) ∙ ap length (sym are.rows_are ∙ bad.split)
    ∙ length-append (shown_from 1 (leaves_of bad.book)) (bad.bad ∷ bad.rest) in
    let first = length-shown_from 1 bad.book in
    omega (arith, short, long, first)

-- ---- one first bad row

same_place : {X : Type 0} (xs ys : List X) (x y : X) (rest tail : List X) → length xs ≡ length ys → xs ++ x ∷ rest ≡ ys ++ y ∷ tail → x ≡ y
same_place [] [] x y rest tail long same = same_head x y rest tail same
same_place [] (b ∷ ys) x y rest tail long same = absurd (omega (arith, long))
same_place (a ∷ xs) [] x y rest tail long same = absurd (omega (arith, long))
same_place (a ∷ xs) (b ∷ ys) x y rest tail long same = same_place xs ys x y rest tail (omega (arith, long)) (same_tail _ _ _ _ same)

pub one-row-is-first-bad : OneRowIsFirstBad
one-row-is-first-bad rows id other bad also =
    let split = sym bad.split ∙ also.split in
    let one = no_longer also.book bad.book also.bad also.rest (bad.bad ∷ bad.rest) also.kept bad.kept split also.broken in
    let two = no_longer bad.book also.book bad.bad bad.rest (also.bad ∷ also.rest) bad.kept also.kept (sym split) bad.broken in
    let long : length bad.book ≡ length also.book = omega (arith, one, two) in
    let rows_long = length-shown_from 1 bad.book ∙ long ∙ sym (length-shown_from 1 also.book) in
    let row = same_place (shown_from 1 (leaves_of bad.book)) (shown_from 1 (leaves_of also.book)) bad.bad also.bad bad.rest also.rest rows_long split in
    bad.id_is ∙ ap (λ n. id_or_place (n + 1) (column bad.bad 0)) long ∙ ap (λ r. id_or_place (length also.book + 1) (column r 0)) row ∙ sym also.id_is
