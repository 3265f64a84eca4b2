-- The id of a level in a book, by its text among the leaves.
use Rattle.std.proofs.Common.{◌≡◌, refl, sym, ap, subst, ◌∙◌, ℕ, zero, suc, ◌+◌, List, [], ◌∷◌, Option, Some, None, Bool, true, false, arith}
use Rattle.std.proofs.Common.{if◌then◌else◌, option_map, slice_get}
use Rattle.std.specs.Str.{bytes_eq}
use Rattle.std.proofs.lemmas.Option.{none-some, same_Some}
use Rattle.std.proofs.lemmas.Slice.Eq.{bytes_eq-Decides}
use Rattle.sok_rules.specs.Squares.{Rows}
use Rattle.sok_rules.specs.Levels.{IsLevel}
use Rattle.sok_text.specs.Canonical.{level_text}
use Rattle.sok_book.specs.Books.{Book, Page}
use Rattle.sok_book.specs.Commands.{IsUnknown, StandsAt}
use Rattle.sok_book.proofs.Texts.{one_level}
use Rattle.sok_sql.specs.Leaves.{Leaf, ids_with}
use Rattle.sok_store.specs.Rows.{IsKeptBook, leaf_of, leaves_of}
use Rattle.sok_store.proofs.KeptBooks.{place-from, stands-from, slice_get-leaves_of}

-- ---- among leaves

-- a leaf with a text, and the id that it has where ids are counted from one
record HasText (text : List ℕ) (from : ℕ) (leaves : List Leaf) (id : ℕ) : Type 0 where
  pub place : ℕ
  pub leaf : Leaf
  pub there : slice_get leaves place ≡ Some leaf
  pub text_is : leaf.text ≡ text
  pub id_is : id ≡ from + place

first_has : (text : List ℕ) (from : ℕ) (leaves : List Leaf) (id : ℕ) → slice_get (ids_with text from leaves) 0 ≡ Some id → HasText text from leaves id
first_has text from [] id found = absurd (none-some id found)
first_has text from (leaf ∷ more) id found = go (bytes_eq leaf.text text) refl (first_has text (from + 1) more id) found
  where
    later : HasText text (from + 1) more id → HasText text from (leaf ∷ more) id
    later has = record { place = suc has.place; leaf = has.leaf; there = has.there; text_is = has.text_is; id_is = omega (arith, has.id_is) }

    go : (same : Bool) → bytes_eq leaf.text text ≡ same
        → (slice_get (ids_with text (from + 1) more) 0 ≡ Some id → HasText text (from + 1) more id)
        → slice_get (if same then from ∷ ids_with text (from + 1) more else ids_with text (from + 1) more) 0 ≡ Some id → HasText text from (leaf ∷ more) id
    go true same on is = record {
      place = 0;
      leaf = leaf;
      there = refl;
      text_is = (bytes_eq-Decides leaf.text text).0 same;
      id_is = let id_is = same_Some from id is in omega (arith, id_is);
    }
    go false same on is = later (on is)

none_has : (text : List ℕ) (from : ℕ) (leaves : List Leaf) → slice_get (ids_with text from leaves) 0 ≡ None
    → (n : ℕ) (leaf : Leaf) → slice_get leaves n ≡ Some leaf → leaf.text ≡ text → ⊥
none_has text from [] found n leaf at same = absurd (none-some leaf at)
none_has text from (first ∷ more) found n leaf at same =
    go (bytes_eq first.text text) refl (λ is k here. none_has text (from + 1) more is k leaf here same) found n at
  where
    go : (test : Bool) → bytes_eq first.text text ≡ test
        → (slice_get (ids_with text (from + 1) more) 0 ≡ None → (k : ℕ) → slice_get more k ≡ Some leaf → ⊥)
        → slice_get (if test then from ∷ ids_with text (from + 1) more else ids_with text (from + 1) more) 0 ≡ None
        → (n : ℕ) → slice_get (first ∷ more) n ≡ Some leaf → ⊥
    go true test on is n here = absurd (none-some from (sym is))
    go false test on is zero here =
        let equal = (bytes_eq-Decides first.text text).1 (ap (λ (l : Leaf). l.text) (same_Some first leaf here) ∙ same) in
        absurd cc
    go false test on is (suc n) here = on is n here

-- ---- among the pages of a book

page_in : (book : Book) (n : ℕ) (leaf : Leaf) (o : Option Page) → slice_get book n ≡ o → option_map leaf_of o ≡ Some leaf
    → (page : Page) × (slice_get book n ≡ Some page) × (leaf_of page ≡ leaf)
page_in book n leaf None at is = absurd (none-some leaf is)
page_in book n leaf (Some page) at is = (page, at, same_Some (leaf_of page) leaf is)

-- an id that is found by a level's text is the level's
pub stands_found : (book : Book) (rows : Rows) (id : ℕ) → IsKeptBook book → IsLevel rows
    → slice_get (ids_with (level_text rows) 1 (leaves_of book)) 0 ≡ Some id → StandsAt book rows id
stands_found book rows id kept level found =
    let has = first_has (level_text rows) 1 (leaves_of book) id found in
    let (page, at, is) = page_in book has.place has.leaf (slice_get book has.place) refl (sym (slice_get-leaves_of book has.place) ∙ has.there) in
    let text : level_text page.level ≡ level_text rows = ap (λ (l : Leaf). l.text) is ∙ has.text_is in
    let same = one_level page.level rows (kept.pages has.place page at).level level text in
    let number : id ≡ suc has.place = omega (arith, has.id_is) in
    subst (StandsAt book rows) (sym number) (stands-from book rows has.place page at same)

-- where none is found the level is not in the book
pub unknown_unfound : (book : Book) (rows : Rows) → slice_get (ids_with (level_text rows) 1 (leaves_of book)) 0 ≡ None → IsUnknown book rows
unknown_unfound book rows found id stands =
    let (n, page, id_is, there) = place-from book rows id stands in
    none_has (level_text rows) 1 (leaves_of book) found n (leaf_of page) (slice_get-leaves_of book n ∙ ap (option_map leaf_of) there.there)
    (ap level_text there.level)
