-- Pages by their ids, in a book with another page at an id, and in one with a page more.
use Rattle.std.proofs.Common.{◌≡◌, ◌⊎◌, inl, inr, refl, sym, ap, ◌∙◌, ℕ, zero, suc, ◌-◌, List, [], ◌∷◌, ◌++◌, Some, None, arith, set}
use Rattle.std.proofs.Common.{slice_get}
use Rattle.std.proofs.lemmas.Option.{none-some, same_Some}
use Rattle.sok_book.specs.Books.{Book, Page, page_at}
use Rattle.sok_book.specs.Commands.{with_page}

set_cases : {X : Type 0} (xs : List X) (n m : ℕ) (x new : X) → slice_get xs m ≡ Some x
    → (slice_get (set xs n new) m ≡ Some x) ⊎ ((n ≡ m) × (slice_get (set xs n new) m ≡ Some new))
set_cases [] n m x new at = absurd (none-some x at)
set_cases (y ∷ ys) zero zero x new at = inr (refl, refl)
set_cases (y ∷ ys) zero (suc m) x new at = inl at
set_cases (y ∷ ys) (suc n) zero x new at = inl at
set_cases (y ∷ ys) (suc n) (suc m) x new at = elim (set_cases ys n m x new at) [
  | inl other ↦ inl other
  | inr (same, there) ↦ inr (ap suc same, there)
]

set_none : {X : Type 0} (xs : List X) (n m : ℕ) (new : X) → slice_get xs m ≡ None → slice_get (set xs n new) m ≡ None
set_none [] n m new past = past
set_none (y ∷ ys) zero zero new past = absurd (none-some y (sym past))
set_none (y ∷ ys) zero (suc m) new past = past
set_none (y ∷ ys) (suc n) zero new past = past
set_none (y ∷ ys) (suc n) (suc m) new past = set_none ys n m new past

push_there : {X : Type 0} (xs : List X) (m : ℕ) (x last : X) → slice_get xs m ≡ Some x → slice_get (xs ++ last ∷ []) m ≡ Some x
push_there [] m x last at = absurd (none-some x at)
push_there (y ∷ ys) zero x last at = at
push_there (y ∷ ys) (suc m) x last at = push_there ys m x last at

push_past : {X : Type 0} (xs : List X) (m : ℕ) (x last : X) → slice_get xs m ≡ None → slice_get (xs ++ last ∷ []) m ≡ Some x → last ≡ x
push_past [] zero x last past at = same_Some last x at
push_past [] (suc m) x last past at = absurd (none-some x at)
push_past (y ∷ ys) zero x last past at = absurd (none-some y (sym past))
push_past (y ∷ ys) (suc m) x last past at = push_past ys m x last past at

one_less : (n : ℕ) → suc n - 1 ≡ n
one_less n = omega arith

-- with another page at an id, a page is that one, or as it was
pub page_at-with_page : (book : Book) (id at : ℕ) (page new : Page) → page_at book at ≡ Some page
    → (page_at (with_page book id new) at ≡ Some page) ⊎ ((id - 1 ≡ at - 1) × (page_at (with_page book id new) at ≡ Some new))
page_at-with_page book id zero page new there = absurd (none-some page there)
page_at-with_page book id (suc n) page new there = elim (set_cases book (id - 1) n page new there) [
  | inl other ↦ inl other
  | inr (same, now) ↦ inr (same ∙ sym (one_less n), now)
]

pub page_at-with_page_none : (book : Book) (id at : ℕ) (new : Page) → page_at book at ≡ None → page_at (with_page book id new) at ≡ None
page_at-with_page_none book id zero new past = past
page_at-with_page_none book id (suc n) new past = set_none book (id - 1) n new past

pub page_at-push : (book : Book) (at : ℕ) (page last : Page) → page_at book at ≡ Some page → page_at (book ++ last ∷ []) at ≡ Some page
page_at-push book zero page last there = absurd (none-some page there)
page_at-push book (suc n) page last there = push_there book n page last there

pub page_at-push_past : (book : Book) (at : ℕ) (page last : Page) → page_at book at ≡ None → page_at (book ++ last ∷ []) at ≡ Some page → last ≡ page
page_at-push_past book zero page last past there = absurd (none-some page there)
page_at-push_past book (suc n) page last past there = push_past book n page last past there

-- two ids that have pages, with the same id before them, are one
pub same_id : (book : Book) (id at : ℕ) (page other : Page) → page_at book id ≡ Some page → page_at book at ≡ Some other → id - 1 ≡ at - 1 → page ≡ other
same_id book zero at page other there here same = absurd (none-some page there)
same_id book (suc n) zero page other there here same = absurd (none-some other here)
same_id book (suc n) (suc m) page other there here same =
    let places : n ≡ m = sym (one_less n) ∙ same ∙ one_less m in
    same_Some page other (sym there ∙ ap (slice_get book) places ∙ here)
