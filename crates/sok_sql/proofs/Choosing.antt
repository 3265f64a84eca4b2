-- What the queries pick of the rows of the table by an id.
use Rattle.std.proofs.Common.{◌≡◌, ℕ, zero, suc, ◌+◌, ◌<◌, pos, List, [], ◌∷◌, map, filter, Bool, true, false, Some, None, Option}
use Rattle.std.proofs.Common.{refl, ap, subst, ◌∙◌, arith, slice_get, if◌then◌else◌, is_eq}
use Rattle.std.proofs.lemmas.Bool.Decides.{nat_tests}
use Rattle.std.specs.List.{flat_map, list_all}
use Rattle.std.specs.Ordering.{nat_cmp}
use Rattle.std.specs.List.Sorted.{IsPermutation}
use Rattle.std.proofs.lemmas.List.Sorted.{IsPermutation-sym, IsPermutation-trans, IsPermutation-map, length_permutation}
use Rattle.sqlite_trees.proofs.ListLemmas.{IsPermutation-filter}
use Rattle.sqlite.specs.declared.types.Value.TheVariants.{Int}
use Rattle.sqlite.specs.Order.{Row, value_cmp, column}
use Rattle.sqlite.specs.Tree.{Trees}
use Rattle.sqlite.specs.Ops.{binary, is_true, from_truth}
use Rattle.sqlite.specs.Term.{Term, Env, holds, col, op2}
use Rattle.sqlite_sql.specs.declared.ops.BinaryOp.TheVariants.{Compare}
use Rattle.sqlite_sql.specs.declared.ops.CompareOp.TheVariants.{Eq}
use Rattle.sqlite_value.specs.declared.keys.Collation.TheVariants.{Binary}
use Rattle.sqlite.specs.Query.{IsAnswer, Output, output, page}
use Rattle.sqlite.specs.Program.{overlay}
use Rattle.sqlite.proofs.Callers.{one_permutation}
use Rattle.sok_sql.specs.Leaves.{Leaf, seen, shown, shown_from, row_at}
use Rattle.sok_sql.proofs.Texts.{pick_query, whole}
use Rattle.sok_sql.proofs.Rows.{compare_ids}

pub truth_is : (b : Bool) → is_true (from_truth (Some b)) ≡ b
truth_is true = refl
truth_is false = refl

equal_ids : (m n : ℕ) → is_true (binary (Compare Eq Binary) (Int (pos m)) (Int (pos n))) ≡ is_eq (nat_cmp m n)
unfolding binary
equal_ids m n = truth_is (is_eq (value_cmp (Int (pos m)) (Int (pos n)))) ∙ ap is_eq (compare_ids m n)

lower_id : (m n : ℕ) → m < n → is_true (binary (Compare Eq Binary) (Int (pos m)) (Int (pos n))) ≡ false
lower_id m n h = equal_ids m n ∙ grind (arith, nat_tests)

higher_id : (m n : ℕ) → n < m → is_true (binary (Compare Eq Binary) (Int (pos m)) (Int (pos n))) ≡ false
higher_id m n h = equal_ids m n ∙ grind (arith, nat_tests)

same_id : (n : ℕ) → is_true (binary (Compare Eq Binary) (Int (pos n)) (Int (pos n))) ≡ true
same_id n = equal_ids n n ∙ grind (arith, nat_tests)

abbrev has_id : ℕ → Row → Bool
has_id id row = is_true (binary (Compare Eq Binary) (column row 0) (Int (pos id)))

none_above : (id at : ℕ) (leaves : List Leaf) → id < at → filter (has_id id) (shown_from at leaves) ≡ []
none_above id at [] h = refl
none_above id at (x ∷ more) h = rw (higher_id at id h) (none_above id (at + 1) more (omega arith))

-- the rows with an id are the one at its place
at_index : (index id at : ℕ) (leaves : List Leaf) → id ≡ at + index → filter (has_id id) (shown_from at leaves) ≡ row_at id (slice_get leaves index)
at_index index id at [] is = refl
at_index zero id at (x ∷ more) is =
    let same : id ≡ at = omega arith in
    rw (← same, same_id id) (ap (λ rest. shown id x ∷ rest) (none_above id (id + 1) more (omega arith)))
at_index (suc index) id at (x ∷ more) is =
    let low : at < id = omega arith in
    rw (lower_id at id low) (at_index index id (at + 1) more (omega arith))

nothing_more : {X : Type 0} (ys : List X) → IsPermutation [] ys → ys ≡ []
nothing_more [] same = refl
nothing_more (y ∷ ys) same = absurd (let long = length_permutation _ _ same in omega arith)

-- ---- what is put out of each row that is picked

module _ (id : ℕ) (more : Row) (project : List Term) (out : Row → Row)
    (puts : (r : Row) → output (pick_query project) ((Int (pos id) ∷ more) ∷ r ∷ []) ≡ ([], out (seen r))) where
  abbrev params : Row
  params = Int (pos id) ∷ more

  abbrev env : Row → List Env
  env r = if list_all (holds (params ∷ r ∷ [])) (op2 (Compare Eq Binary) (col 1 0) (col 0 0) ∷ []) then (params ∷ r ∷ []) ∷ [] else []

  abbrev unkeyed : Row → Output
  unkeyed row = ([], out row)

  picked_rows : (rows : List Row) → map (output (pick_query project)) (flat_map env rows) ≡ map unkeyed (filter (has_id id) (map seen rows))
  picked_rows [] = refl
  picked_rows (r ∷ rows) = go (has_id id (seen r)) refl (picked_rows rows)
    where
      go : (b : Bool) → has_id id (seen r) ≡ b → map (output (pick_query project)) (flat_map env rows) ≡ map unkeyed (filter (has_id id) (map seen rows))
          → map (output (pick_query project)) (flat_map env (r ∷ rows)) ≡ map unkeyed (filter (has_id id) (map seen (r ∷ rows)))
      go true e all = rw (e, puts r) (ap (λ rest. unkeyed (seen r) ∷ rest) all)
      go false e all = rw e all

  put_out : (index : ℕ) (leaves : List Leaf) (db : Trees) (rows : List Row) → IsPermutation (map seen (db 0)) (shown_from 1 leaves) → id ≡ 1 + index
      → (a : IsAnswer (pick_query project) (overlay db []) params rows) → IsPermutation (map unkeyed (row_at id (slice_get leaves index))) a.ordered
  put_out index leaves db rows has is a =
      let kept : a.kept ≡ map unkeyed (filter (has_id id) (map seen (db 0))) =
      a.distinct ∙ ap (map (output (pick_query project))) a.grouped ∙ picked_rows (db 0) in
      let all = IsPermutation-map unkeyed _ _ (IsPermutation-filter (has_id id) _ _ (IsPermutation-sym _ _ has)) in
      let one = subst (λ l. IsPermutation (map unkeyed l) (map unkeyed (filter (has_id id) (map seen (db 0))))) (at_index index id 1 leaves is) all in
      IsPermutation-trans _ _ _ one (subst (λ k. IsPermutation k a.ordered) kept a.same)

  pub picks : (db : Trees) (it : Leaf) (index : ℕ) (leaves : List Leaf) (rows : List Row) → IsPermutation (map seen (db 0)) (shown_from 1 leaves)
      → id ≡ 1 + index → slice_get leaves index ≡ Some it → IsAnswer (pick_query project) (overlay db []) params rows → rows ≡ out (shown id it) ∷ []
  picks db it index leaves rows has is found a =
      let same = put_out index leaves db rows has is a in
      let ordered = one_permutation (unkeyed (shown id it)) a.ordered (subst (λ o. IsPermutation (map unkeyed (row_at id o)) a.ordered) found same) in
      a.shown ∙ ap (λ xs. page (pick_query project) params (map (λ (p : Output). p.1) xs)) ordered

  pub picks_none : (db : Trees) (index : ℕ) (leaves : List Leaf) (rows : List Row) → IsPermutation (map seen (db 0)) (shown_from 1 leaves) → id ≡ 1 + index
      → slice_get leaves index ≡ None → IsAnswer (pick_query project) (overlay db []) params rows → rows ≡ []
  picks_none db index leaves rows has is missing a =
      let same = put_out index leaves db rows has is a in
      let ordered = nothing_more a.ordered (subst (λ o. IsPermutation (map unkeyed (row_at id o)) a.ordered) missing same) in
      a.shown ∙ ap (λ xs. page (pick_query project) params (map (λ (p : Output). p.1) xs)) ordered

-- the row with an id, whole
pub reads_one : (id index : ℕ) (db : Trees) (leaves : List Leaf) (rows : List Row) → IsPermutation (map seen (db 0)) (shown_from 1 leaves) → id ≡ 1 + index
    → IsAnswer (pick_query whole) (overlay db []) (Int (pos id) ∷ []) rows → rows ≡ row_at id (slice_get leaves index)
reads_one id index db leaves rows has is a = go (slice_get leaves index) refl
  where
    go : (o : Option Leaf) → slice_get leaves index ≡ o → rows ≡ row_at id o
    go None missing = picks_none id [] whole (λ row. row) (λ r. refl) db index leaves rows has is missing a
    go (Some it) found = picks id [] whole (λ row. row) (λ r. refl) db it index leaves rows has is found a
