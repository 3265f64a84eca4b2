-- Why a call of the book answers `Database`, and what never does.
use Rattle.std.proofs.Common.{◌≡◌, ◌≢◌, ◌⊎◌, inl, inr, refl, sym, ap, ◌∙◌, ℕ, zero, suc, ℤ, ◌<◌, ◌^◌, arith}
use Rattle.std.proofs.Common.{List, [], ◌∷◌, Option, Some, None}
use Rattle.std.proofs.Common.{IsTrue, false, length, slice_get, slice_set, option_map}
use Rattle.std.proofs.lemmas.Bool.{cases_Bool}
use Rattle.std.proofs.lemmas.Option.{none-some, same_Some}
use Rattle.sqlite.specs.declared.error.Error.{Error}
use Rattle.sqlite.specs.State.{State, HasCleanDisk, Survives}
use Rattle.sqlite.specs.Tree.{Trees}
use Rattle.sok_text.specs.Canonical.{level_text}
use Rattle.sok_book.specs.declared.fault.BookFault.{BookFault}
use Rattle.sok_book.specs.declared.fault.BookFault.TheVariants.{BadBook, Database, Memory}
use Rattle.sok_book.specs.Books.{Book, Page}
use Rattle.sok_book.proofs.Texts.{one_level}
use Rattle.sok_sql.specs.Causes.{AreApart, HasCause, IsExcused, IsMemory}
use Rattle.sok_sql.specs.Leaves.{Leaf}
use Rattle.sok_store.specs.Rows.{HoldsBook, IsKeptBook, leaf_of, leaves_of}
use Rattle.sok_store.proofs.KeptBooks.{length-leaves_of, slice_get-leaves_of}
use Rattle.sok_store.specs.Calls.{IsCaused, MakesNone}

-- ---- causes over two calls

module _ (a b c : State) (P Q : Trees → Type 0) (one : Survives a b P) (two : Survives b c Q) (clean : HasCleanDisk c) where
  shut_before : b.is_open ≡ false → HasCause a c
  shut_before shut = elim (cases_Bool a.is_open) [
    | inl up ↦ elim (one.closes (omega (arith, two.clean)) up) [
      | inl still ↦ absurd (let e : IsTrue b.is_open = still in cc)
      | inr fault ↦ inr (inr (omega (arith, two.counts, fault)))
    ]
    | inr down ↦ inl down
  ]

  pub cause_before : HasCause b c → HasCause a c
  cause_before (inl shut) = shut_before shut
  cause_before (inr (inl some)) = inr (inl (rw (← one.limit) some))
  cause_before (inr (inr fault)) = inr (inr (omega (arith, one.counts, fault)))

pub cause_after : (a b c : State) (Q : Trees → Type 0) → Survives b c Q → HasCause a b → HasCause a c
cause_after a b c Q two (inl shut) = inl shut
cause_after a b c Q two (inr (inl some)) = inr (inl some)
cause_after a b c Q two (inr (inr fault)) = inr (inr (omega (arith, two.counts, fault)))

-- ---- what is told of one call

module _ (old new : State) (Makes : Book → Book → Type 0) where
  pub told : (error : Error) (fault : BookFault) → (IsMemory error → fault ≡ Memory)
      → (HasCleanDisk new → (book : Book) → HoldsBook old book → IsExcused old new error) → IsCaused old new Makes fault
  told error fault memory why database clean book holds =
      elim (why clean book holds) [ inl none ↦ absurd (let e = memory none in cc) | inr cause ↦ inr cause ]

  pub inside : (fault : BookFault) → fault ≢ Database → IsCaused old new Makes fault
  inside fault other database = absurd (other database)

  pub caused_none : (fault : BookFault) → IsCaused old new MakesNone fault → IsCaused old new Makes fault
  caused_none fault caused database clean book holds = elim (caused database clean book holds) [ inl made ↦ absurd made.1 | inr why ↦ inr why ]

  pub row_told : (fault : BookFault) (id : ℤ) (X : Type 0) → (fault ≡ Memory) ⊎ ((fault ≡ BadBook id) × X) → IsCaused old new Makes fault
  row_told fault id X (inl memory) database = absurd cc
  row_told fault id X (inr bad) database = absurd (let e = bad.0 in cc)

-- ---- of a book that may be kept

pub few_leaves : (book : Book) → IsKeptBook book → length (leaves_of book) < 2 ^ 32
few_leaves book kept = let same = length-leaves_of book in omega (arith, kept.few)

page_in : (n : ℕ) (leaf : Leaf) (o : Option Page) → option_map leaf_of o ≡ Some leaf → (page : Page) × (o ≡ Some page) × (leaf_of page ≡ leaf)
page_in n leaf None is = absurd (none-some leaf is)
page_in n leaf (Some page) is = (page, refl, same_Some (leaf_of page) leaf is)

-- no text stands there twice
pub kept_apart : (book : Book) → IsKeptBook book → AreApart (leaves_of book)
kept_apart book kept m n leaf other here there same =
    let (page, at, is) = page_in m leaf (slice_get book m) (sym (slice_get-leaves_of book m) ∙ here) in
    let (twin, stands, twin_is) = page_in n other (slice_get book n) (sym (slice_get-leaves_of book n) ∙ there) in
    let text : level_text page.level ≡ level_text twin.level = ap (λ (l : Leaf). l.text) is ∙ same ∙ sym (ap (λ (l : Leaf). l.text) twin_is) in
    kept.once m n page twin at stands (one_level page.level twin.level (kept.pages m page at).level (kept.pages n twin stands).level text)

pub set_get : {X : Type 0} (xs : List X) (n : ℕ) (x y : X) → slice_get xs n ≡ Some x → slice_get (slice_set xs n y) n ≡ Some y
set_get [] n x y at = absurd (none-some x at)
set_get (z ∷ zs) zero x y at = refl
set_get (z ∷ zs) (suc n) x y at = set_get zs n x y at
