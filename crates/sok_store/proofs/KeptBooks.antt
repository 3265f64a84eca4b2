-- Books that may be kept: one with a page more, and one with another page of the same level.
use Rattle.std.proofs.Common.{◌≡◌, ◌⊎◌, inl, inr, refl, sym, ap, subst, ◌∙◌, ℕ, zero, suc, ◌<◌, List, [], ◌∷◌, ◌++◌, Option, Some, None, arith}
use Rattle.std.proofs.Common.{IsSomeAnd, length, length-append, slice_get, option_map}
use Rattle.std.specs.List.{slice_set}
use Rattle.std.proofs.lemmas.List.{length-map, length-set, map-append, map-set}
use Rattle.std.proofs.lemmas.Option.{none-some, same_Some, slice_get-map}
use Rattle.sok_rules.specs.Squares.{Rows}
use Rattle.sok_book.specs.Books.{Book, Page}
use Rattle.sok_book.specs.Commands.{IsUnknown, StandsAt, level_limit}
use Rattle.sok_book.specs.Kept.{IsKeptPage}
use Rattle.sok_store.specs.Rows.{IsKeptBook, leaf_of, leaves_of}

-- ---- lists with an element more, or with another at a place

pushed : {X : Type 0} (xs : List X) (m : ℕ) (last x : X) → slice_get (xs ++ last ∷ []) m ≡ Some x
    → (slice_get xs m ≡ Some x) ⊎ ((m ≡ length xs) × (last ≡ x))
pushed [] zero last x at = inr (refl, same_Some last x at)
pushed [] (suc m) last x at = absurd (none-some x at)
pushed (y ∷ ys) zero last x at = inl at
pushed (y ∷ ys) (suc m) last x at = elim (pushed ys m last x at) [
  | inl before ↦ inl before
  | inr (end, same) ↦ inr (omega (arith, end), same)
]

replaced : {X : Type 0} (xs : List X) (n m : ℕ) (new x : X) → slice_get (slice_set xs n new) m ≡ Some x
    → (slice_get xs m ≡ Some x) ⊎ ((n ≡ m) × (new ≡ x))
replaced [] n m new x at = absurd (none-some x at)
replaced (y ∷ ys) zero zero new x at = inr (refl, same_Some new x at)
replaced (y ∷ ys) zero (suc m) new x at = inl at
replaced (y ∷ ys) (suc n) zero new x at = inl at
replaced (y ∷ ys) (suc n) (suc m) new x at = elim (replaced ys n m new x at) [
  | inl other ↦ inl other
  | inr (same, there) ↦ inr (ap suc same, there)
]

-- ---- a level that stands in a book

pub stands-from : (book : Book) (rows : Rows) (n : ℕ) (page : Page) → slice_get book n ≡ Some page → page.level ≡ rows → StandsAt book rows (suc n)
stands-from book rows n page at same = subst (λ (o : Option Page). IsSomeAnd o (λ p. p.level ≡ rows)) (sym at) same

-- a page of a level, with its place
pub record IsFoundAt (book : Book) (rows : Rows) (n : ℕ) (page : Page) : Type 0 where
  pub there : slice_get book n ≡ Some page
  pub level : page.level ≡ rows

found_in : (book : Book) (rows : Rows) (n : ℕ) (o : Option Page) → slice_get book n ≡ o → IsSomeAnd o (λ p. p.level ≡ rows)
    → (page : Page) × IsFoundAt book rows n page
found_in book rows n None at is = absurd is
found_in book rows n (Some page) at is = (page, record { there = at; level = is })

pub place-from : (book : Book) (rows : Rows) (id : ℕ) → StandsAt book rows id → (n : ℕ) × (page : Page) × (id ≡ suc n) × IsFoundAt book rows n page
place-from book rows zero stands = absurd stands
place-from book rows (suc n) stands = let (page, found) = found_in book rows n (slice_get book n) refl stands in (n, page, refl, found)

-- ---- books that may be kept

apart : (book : Book) (last : Page) (n : ℕ) (page : Page) → IsUnknown book last.level → slice_get book n ≡ Some page → page.level ≡ last.level → ⊥
apart book last n page unknown at same = unknown (suc n) (stands-from book last.level n page at same)

pub IsKeptBook-push : (book : Book) (last : Page) → IsKeptBook book → IsKeptPage last → IsUnknown book last.level → length book < level_limit
    → IsKeptBook (book ++ last ∷ [])
IsKeptBook-push book last kept of_last unknown room = record {
  pages = λ n page at. elim (pushed book n last page at) [
    | inl before ↦ kept.pages n page before
    | inr (end, same) ↦ subst IsKeptPage same of_last
  ];
  once = λ m n page other at there same. elim (pushed book m last page at) [
    | inl before ↦ elim (pushed book n last other there) [
      | inl also ↦ kept.once m n page other before also same
      | inr (end, is) ↦ absurd (apart book last m page unknown before (same ∙ ap (λ (p : Page). p.level) (sym is)))
    ]
    | inr (end, is) ↦ elim (pushed book n last other there) [
      | inl also ↦ absurd (apart book last n other unknown also (sym same ∙ ap (λ (p : Page). p.level) (sym is)))
      | inr (close, too) ↦ end ∙ sym close
    ]
  ];
  few = let longer = length-append book (last ∷ []) in omega (arith, room, longer);
}

-- at its place there was a page of the same level
was : (book : Book) (n m : ℕ) (page new other : Page) → slice_get book n ≡ Some page → new.level ≡ page.level
    → slice_get (slice_set book n new) m ≡ Some other → (before : Page) × IsFoundAt book other.level m before
was book n m page new other at level there = elim (replaced book n m new other there) [
  | inl same ↦ (other, record { there = same; level = refl })
  | inr (place, is) ↦
      (page, record { there = ap (slice_get book) (sym place) ∙ at; level = sym level ∙ ap (λ (p : Page). p.level) is })
]

pub IsKeptBook-set : (book : Book) (n : ℕ) (page new : Page) → IsKeptBook book → slice_get book n ≡ Some page → new.level ≡ page.level → IsKeptPage new
    → IsKeptBook (slice_set book n new)
IsKeptBook-set book n page new kept at level of_new = record {
  pages = λ m other there. elim (replaced book n m new other there) [
    | inl same ↦ kept.pages m other same
    | inr (place, is) ↦ subst IsKeptPage is of_new
  ];
  once = λ l m other twin here there same.
      let (first, found) = was book n l page new other at level here in
      let (second, again) = was book n m page new twin at level there in
      kept.once l m first second found.there again.there (found.level ∙ same ∙ sym again.level);
  few = let same = length-set book n new in omega (arith, kept.few, same);
}

-- ---- their leaves

pub length-leaves_of : (book : Book) → length (leaves_of book) ≡ length book
length-leaves_of book = length-map book leaf_of

pub leaves_of-push : (book : Book) (page : Page) → leaves_of (book ++ page ∷ []) ≡ leaves_of book ++ leaf_of page ∷ []
leaves_of-push book page = map-append leaf_of book (page ∷ [])

pub leaves_of-set : (book : Book) (n : ℕ) (page : Page) → leaves_of (slice_set book n page) ≡ slice_set (leaves_of book) n (leaf_of page)
leaves_of-set book n page = map-set leaf_of book n page

pub slice_get-leaves_of : (book : Book) (n : ℕ) → slice_get (leaves_of book) n ≡ option_map leaf_of (slice_get book n)
slice_get-leaves_of book n = slice_get-map leaf_of book n
