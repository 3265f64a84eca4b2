-- What an edit makes of the rows of the table.
use Rattle.std.proofs.Common.{◌≡◌, ℕ, zero, suc, ◌+◌, ◌<◌, ℤ, pos, List, [], ◌∷◌, ◌++◌, length, map, Bool, true, false, not, ◌&&◌, cond}
use Rattle.std.proofs.Common.{Some, None, Option, refl, sym, ap, subst, ◌∙◌, arith, filter, slice_get, slice_set, Ordering, Less, Equal, Greater, is_eq}
use Rattle.std.specs.Ordering.{nat_cmp, match_ordering}
use Rattle.std.proofs.lemmas.Bool.Decides.{nat_tests}
use Rattle.std.specs.List.Sorted.{IsPermutation}
use Rattle.std.proofs.lemmas.List.Sorted.{IsPermutation-refl, IsPermutation-sym, IsPermutation-trans, IsPermutation-cons}
use Rattle.std.proofs.lemmas.List.Sorted.{IsPermutation-middle, IsPermutation-to_front, IsPermutation-map}
use Rattle.sqlite_trees.proofs.ListLemmas.{IsPermutation-filter, filter-map}
use Rattle.sqlite.specs.declared.types.Value.{Value}
use Rattle.sqlite.specs.declared.types.Value.TheVariants.{Null, Int, Text as Words, Blob as Bytes}
use Rattle.sqlite.specs.Values.{or_null}
use Rattle.sqlite.specs.Order.{Row, value_cmp, column}
use Rattle.sqlite.specs.Tree.{put_row, without_rowid, rowid}
use Rattle.sqlite.specs.Edit.{is_taken}
use Rattle.sqlite.specs.Cast.{cast}
use Rattle.sqlite.specs.Kind.TheVariants.{Integer, Text, Blob}
use Rattle.sqlite.specs.Ops.{unary}
use Rattle.sqlite_value.proofs.OrderLemmas.{value_cmp-Int}
use Rattle.sok_sql.specs.Leaves.{Leaf, stored, seen, shown, shown_from}

either : (b : Bool) (x : Value) → cond b x x ≡ x
either true x = refl
either false x = refl

-- ---- a value of a column's kind is written as it is

pub cast_int : (n : ℤ) → cast Integer (Int n) ≡ Int n
unfolding unary
cast_int n = either _ (Int n)

pub cast_null : cast Integer Null ≡ Null
unfolding unary
cast_null = either _ Null

pub cast_count : (o : Option ℕ) → cast Integer (or_null (λ n. Int (pos n)) o) ≡ or_null (λ n. Int (pos n)) o
cast_count None = cast_null
cast_count (Some n) = cast_int (pos n)

pub cast_words : (o : Option (List ℕ)) → cast Text (or_null Words o) ≡ or_null Words o
unfolding unary
cast_words None = refl
cast_words (Some w) = refl

pub cast_bytes : (o : Option (List ℕ)) → cast Blob (or_null Bytes o) ≡ or_null Bytes o
unfolding unary
cast_bytes None = refl
cast_bytes (Some b) = refl

-- ---- ids

pub compare_ids : (m n : ℕ) → value_cmp (Int (pos m)) (Int (pos n)) ≡ nat_cmp m n
compare_ids m n = value_cmp-Int (pos m) (pos n) ∙ grind (arith, nat_tests)

pub below : (m n : ℕ) → m < n → value_cmp (Int (pos m)) (Int (pos n)) ≡ Less
below m n h = compare_ids m n ∙ grind (arith, nat_tests)

pub same_id : (n : ℕ) → value_cmp (Int (pos n)) (Int (pos n)) ≡ Equal
same_id n = compare_ids n n ∙ grind (arith, nat_tests)

pub above : (m n : ℕ) → n < m → value_cmp (Int (pos m)) (Int (pos n)) ≡ Greater
above m n h = compare_ids m n ∙ grind (arith, nat_tests)

pub not_taken : (b : Bool) → (not b && true) ≡ true → b ≡ false
not_taken true h = sym h
not_taken false h = refl

-- ---- a row with a new id is one row more

pub put_fresh : (new : Row) (rows : List Row) → is_taken rows new ≡ false → IsPermutation (new ∷ rows) (put_row new rows)
put_fresh new [] h = IsPermutation-refl _
put_fresh new (r ∷ rs) h = go (value_cmp (rowid r) (rowid new)) refl h (put_fresh new rs)
  where
    go : (o : Ordering) → value_cmp (rowid r) (rowid new) ≡ o → is_taken (r ∷ rs) new ≡ false
        → (is_taken rs new ≡ false → IsPermutation (new ∷ rs) (put_row new rs))
        → IsPermutation (new ∷ r ∷ rs) (match_ordering o (r ∷ put_row new rs) (new ∷ rs) (new ∷ r ∷ rs))
    go Less e free more =
        IsPermutation-trans _ _ _ (IsPermutation-sym _ _ (IsPermutation-middle (r ∷ []) new rs)) (IsPermutation-cons r _ _ (more (rw e at free)))
    go Equal e free more = absurd (let clash = rw e at free in cc)
    go Greater e free more = IsPermutation-refl _

pub shown-append : (it : Leaf) (at : ℕ) (leaves : List Leaf) → shown_from at (leaves ++ it ∷ []) ≡ shown_from at leaves ++ shown (at + length leaves) it ∷ []
shown-append it at [] = let same : at ≡ at + 0 = omega arith in ap (λ i. shown i it ∷ []) same
shown-append it at (x ∷ more) =
    let same : (at + 1) + length more ≡ at + length (x ∷ more) = omega arith in
    ap (λ rows. shown at x ∷ rows) (shown-append it (at + 1) more ∙ ap (λ i. shown_from (at + 1) more ++ shown i it ∷ []) same)

pub put_last : (it : Leaf) (id : ℕ) (leaves : List Leaf) (rows : List Row) → id ≡ 1 + length leaves → is_taken rows (stored id it) ≡ false
    → IsPermutation (map seen rows) (shown_from 1 leaves) → IsPermutation (map seen (put_row (stored id it) rows)) (shown_from 1 (leaves ++ it ∷ []))
put_last it id leaves rows is free has =
    let one_more = IsPermutation-map seen _ _ (IsPermutation-sym _ _ (put_fresh (stored id it) rows free)) in
    let front = IsPermutation-cons (shown id it) _ _ has in
    let last = IsPermutation-sym _ _ (IsPermutation-to_front (shown_from 1 leaves) (shown id it)) in
    let whole : IsPermutation (map seen (put_row (stored id it) rows)) (shown_from 1 leaves ++ shown id it ∷ []) =
    IsPermutation-trans _ _ _ one_more (IsPermutation-trans _ _ _ front last) in
    subst (IsPermutation (map seen (put_row (stored id it) rows))) (ap (λ i. shown_from 1 leaves ++ shown i it ∷ []) is ∙ sym (shown-append it 1 leaves)) whole

-- ---- a row in the place of the one with its id

abbrev is_other : ℕ → Row → Bool
is_other id row = not (is_eq (value_cmp (column row 0) (Int (pos id))))

keep_higher : (id at : ℕ) (leaves : List Leaf) → id < at → filter (is_other id) (shown_from at leaves) ≡ shown_from at leaves
keep_higher id at [] h = refl
keep_higher id at (x ∷ more) h = rw (above at id h) (ap (λ rows. shown at x ∷ rows) (keep_higher id (at + 1) more (omega arith)))

replaced : (new : Leaf) (it : Leaf) (index id at : ℕ) (leaves : List Leaf) → id ≡ at + index → slice_get leaves index ≡ Some it
    → IsPermutation (shown id new ∷ filter (is_other id) (shown_from at leaves)) (shown_from at (slice_set leaves index new))
replaced new it index id at [] is found = absurd cc
replaced new it zero id at (x ∷ more) is found =
    let same : id ≡ at = omega arith in
    let here : shown at new ∷ filter (is_other at) (shown_from at (x ∷ more)) ≡ shown_from at (slice_set (x ∷ more) 0 new) =
    rw (same_id at, keep_higher at (at + 1) more (omega arith)) in
    subst (λ i. IsPermutation (shown i new ∷ filter (is_other i) (shown_from at (x ∷ more))) (shown_from at (slice_set (x ∷ more) 0 new))) (sym same)
    (subst (IsPermutation (shown at new ∷ filter (is_other at) (shown_from at (x ∷ more)))) here (IsPermutation-refl _))
replaced new it (suc index) id at (x ∷ more) is found =
    let low : at < id = omega arith in
    let rest = replaced new it index id (at + 1) more (omega arith) found in
    let others = filter (is_other id) (shown_from (at + 1) more) in
    rw (below at id low)
    (IsPermutation-trans _ _ _ (IsPermutation-sym _ _ (IsPermutation-middle (shown at x ∷ []) (shown id new) others))
    (IsPermutation-cons (shown at x) _ _ rest))

pub put_in_place : (new it : Leaf) (index id : ℕ) (leaves : List Leaf) (rows : List Row) → id ≡ 1 + index → slice_get leaves index ≡ Some it
    → is_taken (without_rowid (pos id) rows) (stored id new) ≡ false → IsPermutation (map seen rows) (shown_from 1 leaves)
    → IsPermutation (map seen (put_row (stored id new) (without_rowid (pos id) rows))) (shown_from 1 (slice_set leaves index new))
put_in_place new it index id leaves rows is found free has =
    let left = without_rowid (pos id) rows in
    let one_more = IsPermutation-map seen _ _ (IsPermutation-sym _ _ (put_fresh (stored id new) left free)) in
    let kept : map seen left ≡ filter (is_other id) (map seen rows) = sym (filter-map (is_other id) seen rows) in
    let others = subst (λ l. IsPermutation l (filter (is_other id) (shown_from 1 leaves))) (sym kept) (IsPermutation-filter (is_other id) _ _ has) in
    IsPermutation-trans _ _ _ one_more
    (IsPermutation-trans _ _ _ (IsPermutation-cons (shown id new) _ _ others) (replaced new it index id 1 leaves is found))
