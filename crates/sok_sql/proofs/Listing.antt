-- What the queries over all rows, and over those with a text, answer.
use Rattle.std.proofs.Common.{◌≡◌, ℕ, zero, suc, ◌+◌, ◌<◌, List, [], ◌∷◌, ◌++◌, length, map, filter, reverse, take, Bool, true, false}
use Rattle.std.proofs.Common.{refl, sym, ap, subst, ◌∙◌, arith, if◌then◌else◌, is_eq, is_lt, get_or, Less}
use Rattle.std.specs.List.{flat_map, list_all, AllByRecursion}
use Rattle.std.specs.Ordering.{on}
use Rattle.std.specs.List.Sorted.{IsPermutation, IsSorted}
use Rattle.std.proofs.lemmas.Cmp.{on_total}
use Rattle.std.proofs.lemmas.List.{reverse-append, map-append}
use Rattle.std.proofs.lemmas.List.Sorted.{IsPermutation-sym, IsPermutation-trans, IsPermutation-map, IsPermutation-reverse}
use Rattle.sqlite_trees.proofs.ListLemmas.{IsPermutation-filter, all-permutation, ascending-filter, ascending-map}
use Rattle.sqlite_value.proofs.OrderLemmas.{then-Equal, value_cmp-Text}
use Rattle.std.specs.Str.{bytes_eq}
use Rattle.std.proofs.lemmas.Map.Text.{is_eq-slice_cmp}
use Rattle.sqlite_exec.proofs.ScanLemmas.{ascending-reverse}
use Rattle.sqlite_keyed.proofs.SortLemmas.{sorted_unique}
use Rattle.sqlite_sql.proofs.QueryLemmas.{key_cmp_total}
use Rattle.sqlite.specs.declared.types.Value.TheVariants.{Text}
use Rattle.sqlite.specs.Order.{Row, value_cmp, column}
use Rattle.sqlite.specs.Tree.{Trees, IsAscending}
use Rattle.sqlite.specs.Ops.{binary, is_true}
use Rattle.sqlite.specs.Term.{Env, holds, col, op2}
use Rattle.sqlite_sql.specs.declared.ops.BinaryOp.TheVariants.{Compare}
use Rattle.sqlite_sql.specs.declared.ops.CompareOp.TheVariants.{Eq}
use Rattle.sqlite_value.specs.declared.keys.Collation.TheVariants.{Binary}
use Rattle.sqlite_value.specs.Keys.{ascending}
use Rattle.sqlite.specs.Query.{IsAnswer, Output, output, output_cmp, page}
use Rattle.sqlite.specs.Program.{overlay}
use Rattle.sok_sql.specs.Leaves.{Leaf, HasLeaves, ListsTable, seen, shown, shown_from, ids_with, id_row, last_ids}
use Rattle.sok_sql.proofs.Texts.{all_query, find_query, last_query, down}
use Rattle.sok_sql.proofs.Rows.{below}
use Rattle.sok_sql.proofs.Choosing.{truth_is}

-- ---- ORDER BY id

abbrev by_id : Row → Output
by_id row = (column row 0 ∷ [], row)

all_rows : (rows : List Row) → map (output all_query) (flat_map (λ r. ([] ∷ r ∷ []) ∷ []) rows) ≡ map by_id (map seen rows)
all_rows [] = refl
all_rows (r ∷ rows) = ap (λ rest. by_id (seen r) ∷ rest) (all_rows rows)

rows_back : (rows : List Row) → map (λ (o : Output). o.1) (map by_id rows) ≡ rows
rows_back [] = refl
rows_back (r ∷ rows) = ap (λ rest. r ∷ rest) (rows_back rows)

all_above : (m at : ℕ) (x : Leaf) (leaves : List Leaf) → m < at
    → AllByRecursion (λ b. output_cmp all_query (by_id (shown m x)) b ≡ Less) (map by_id (shown_from at leaves))
all_above m at x [] h = tt
all_above m at x (y ∷ more) h = (rw (below m at h), all_above m (at + 1) x more (omega arith))

rising : (at : ℕ) (leaves : List Leaf) → IsAscending (λ a b. output_cmp all_query a b ≡ Less) (map by_id (shown_from at leaves))
rising at [] = tt
rising at (x ∷ more) = (all_above at (at + 1) x more (omega arith), rising (at + 1) more)

-- an answer has the rows of the table, and where these are known it has them in order
all_are : (db : Trees) (rows : List Row) → IsAnswer all_query (overlay db []) [] rows → IsPermutation (map seen (db 0)) rows
all_are db rows a =
    let kept : a.kept ≡ map by_id (map seen (db 0)) = a.distinct ∙ ap (map (output all_query)) a.grouped ∙ all_rows (db 0) in
    let same = IsPermutation-map (λ (o : Output). o.1) _ _ (subst (λ k. IsPermutation k a.ordered) kept a.same) in
    let back = subst (λ l. IsPermutation l (map (λ (o : Output). o.1) a.ordered)) (rows_back (map seen (db 0))) same in
    subst (IsPermutation (map seen (db 0))) (sym a.shown) back

pub lists : (db : Trees) (leaves : List Leaf) (rows : List Row) → HasLeaves db leaves → IsAnswer all_query (overlay db []) [] rows → rows ≡ shown_from 1 leaves
lists db leaves rows has a =
    let kept : a.kept ≡ map by_id (map seen (db 0)) = a.distinct ∙ ap (map (output all_query)) a.grouped ∙ all_rows (db 0) in
    let same = IsPermutation-trans _ _ _ (IsPermutation-map by_id _ _ (IsPermutation-sym _ _ has)) (subst (λ k. IsPermutation k a.ordered) kept a.same) in
    let total = on_total (λ (o : Output). o.0) (key_cmp_total (ascending Binary ∷ []) 0) in
    let ordered = sorted_unique (output_cmp all_query) total (map by_id (shown_from 1 leaves)) a.ordered (rising 1 leaves) same a.sorted in
    a.shown ∙ ap (λ xs. page all_query [] (map (λ (p : Output). p.1) xs)) ordered ∙ rows_back (shown_from 1 leaves)

-- ---- the rows are in order of their ids

get_or-map : {A B : Type 0} (f : A → B) (xs : List A) (k : ℕ) (d : A) → get_or (map f xs) k (f d) ≡ f (get_or xs k d)
get_or-map f [] k d = refl
get_or-map f (x ∷ xs) zero d = refl
get_or-map f (x ∷ xs) (suc k) d = get_or-map f xs k d

length-shown : (rows : List Row) → length (map by_id rows) ≡ length rows
length-shown [] = refl
length-shown (r ∷ rows) = ap suc (length-shown rows)

abbrev IsById : Output → Type 0
IsById o = o ≡ by_id o.1

all_by_id : (rows : List Row) → AllByRecursion IsById (map by_id rows)
all_by_id [] = tt
all_by_id (r ∷ rows) = (refl, all_by_id rows)

back_by_id : (outs : List Output) → AllByRecursion IsById outs → outs ≡ map by_id (map (λ (o : Output). o.1) outs)
back_by_id [] all = refl
back_by_id (o ∷ outs) all = ap (λ x. x ∷ outs) all.0 ∙ ap (λ l. by_id o.1 ∷ l) (back_by_id outs all.1)

rows_rise : (db : Trees) (rows : List Row) → IsAnswer all_query (overlay db []) [] rows → IsSorted (on (λ (r : Row). column r 0) value_cmp) rows
rows_rise db rows a k d low high =
    let kept : a.kept ≡ map by_id (map seen (db 0)) = a.distinct ∙ ap (map (output all_query)) a.grouped ∙ all_rows (db 0) in
    let each = all-permutation IsById _ _ (subst (λ l. IsPermutation l a.ordered) kept a.same) (all_by_id (map seen (db 0))) in
    let is : a.ordered ≡ map by_id rows = back_by_id a.ordered each ∙ ap (map by_id) (sym a.shown) in
    let up = subst (IsSorted (output_cmp all_query)) is a.sorted in
    let long = length-shown rows in
    let here = up k (by_id d) low (omega arith) in
    ap is_lt (sym (then-Equal (value_cmp (column (get_or rows (k + 1) d) 0) (column (get_or rows k d) 0))))
    ∙ rw (get_or-map by_id rows (k + 1) d, get_or-map by_id rows k d) at here

pub lists_table : (db : Trees) (rows : List Row) → IsAnswer all_query (overlay db []) [] rows → ListsTable (db 0) rows
lists_table db rows a = record { same = all_are db rows a; sorted = rows_rise db rows a }

-- ---- WHERE text = ?1 ORDER BY id

abbrev has_text : List ℕ → Row → Bool
has_text words row = is_true (binary (Compare Eq Binary) (column row 1) (Text words))

pub equal_texts : (s t : List ℕ) → is_true (binary (Compare Eq Binary) (Text s) (Text t)) ≡ bytes_eq s t
unfolding binary
equal_texts s t = truth_is (is_eq (value_cmp (Text s) (Text t))) ∙ ap is_eq (value_cmp-Text s t) ∙ is_eq-slice_cmp s t

abbrev id_by_id : Row → Output
id_by_id row = (column row 0 ∷ [], column row 0 ∷ [])

abbrev IsBefore : Row → Row → Type 0
IsBefore a b = output_cmp find_query (id_by_id a) (id_by_id b) ≡ Less

before_all : (m at : ℕ) (x : Leaf) (leaves : List Leaf) → m < at → AllByRecursion (IsBefore (shown m x)) (shown_from at leaves)
before_all m at x [] h = tt
before_all m at x (y ∷ more) h = (rw (below m at h), before_all m (at + 1) x more (omega arith))

leaves_rise : (at : ℕ) (leaves : List Leaf) → IsAscending IsBefore (shown_from at leaves)
leaves_rise at [] = tt
leaves_rise at (x ∷ more) = (before_all at (at + 1) x more (omega arith), leaves_rise (at + 1) more)

module _ (words : List ℕ) where
  abbrev params : Row
  params = Text words ∷ []

  abbrev text_env : Row → List Env
  text_env r = if list_all (holds (params ∷ r ∷ [])) (op2 (Compare Eq Binary) (col 1 2) (col 0 0) ∷ []) then (params ∷ r ∷ []) ∷ [] else []

  found_rows : (rows : List Row) → map (output find_query) (flat_map text_env rows) ≡ map id_by_id (filter (has_text words) (map seen rows))
  found_rows [] = refl
  found_rows (r ∷ rows) = go (has_text words (seen r)) refl (found_rows rows)
    where
      go : (b : Bool) → has_text words (seen r) ≡ b → map (output find_query) (flat_map text_env rows) ≡ map id_by_id (filter (has_text words) (map seen rows))
          → map (output find_query) (flat_map text_env (r ∷ rows)) ≡ map id_by_id (filter (has_text words) (map seen (r ∷ rows)))
      go true e more = rw e (ap (λ rest. id_by_id (seen r) ∷ rest) more)
      go false e more = rw e more

  ids_are : (at : ℕ) (leaves : List Leaf)
      → map (λ (o : Output). o.1) (map id_by_id (filter (has_text words) (shown_from at leaves))) ≡ map id_row (ids_with words at leaves)
  ids_are at [] = refl
  ids_are at (x ∷ more) = go (bytes_eq x.text words) (equal_texts x.text words) (ids_are (at + 1) more)
    where
      go : (b : Bool) → has_text words (shown at x) ≡ b
          → map (λ (o : Output). o.1) (map id_by_id (filter (has_text words) (shown_from (at + 1) more))) ≡ map id_row (ids_with words (at + 1) more)
          → map (λ (o : Output). o.1) (map id_by_id (filter (has_text words) (shown_from at (x ∷ more))))
          ≡ map id_row (if b then at ∷ ids_with words (at + 1) more else ids_with words (at + 1) more)
      go true e rest = rw e (ap (λ l. id_row at ∷ l) rest)
      go false e rest = rw e rest

  pub finds : (db : Trees) (leaves : List Leaf) (rows : List Row) → HasLeaves db leaves → IsAnswer find_query (overlay db []) params rows
      → rows ≡ map id_row (ids_with words 1 leaves)
  finds db leaves rows has a =
      let kept : a.kept ≡ map id_by_id (filter (has_text words) (map seen (db 0))) = a.distinct ∙ ap (map (output find_query)) a.grouped ∙ found_rows (db 0) in
      let matching = IsPermutation-map id_by_id _ _ (IsPermutation-filter (has_text words) _ _ (IsPermutation-sym _ _ has)) in
      let same = IsPermutation-trans _ _ _ matching (subst (λ k. IsPermutation k a.ordered) kept a.same) in
      let picked = ascending-filter IsBefore (has_text words) _ (leaves_rise 1 leaves) in
      let up = ascending-map (λ (a b : Output). output_cmp find_query a b ≡ Less) id_by_id _ picked in
      let total = on_total (λ (o : Output). o.0) (key_cmp_total (ascending Binary ∷ []) 0) in
      let ordered = sorted_unique (output_cmp find_query) total (map id_by_id (filter (has_text words) (shown_from 1 leaves))) a.ordered up same a.sorted in
      a.shown ∙ ap (λ xs. page find_query params (map (λ (p : Output). p.1) xs)) ordered ∙ ids_are 1 leaves

-- ---- ORDER BY id DESC LIMIT 1

ids_of_all : (rows : List Row) → map (output last_query) (flat_map (λ r. ([] ∷ r ∷ []) ∷ []) rows) ≡ map id_by_id (map seen rows)
ids_of_all [] = refl
ids_of_all (r ∷ rows) = ap (λ rest. id_by_id (seen r) ∷ rest) (ids_of_all rows)

abbrev IsBelow : Output → Output → Type 0
IsBelow a b = output_cmp last_query b a ≡ Less

below_all : (m at : ℕ) (x : Leaf) (leaves : List Leaf) → m < at → AllByRecursion (IsBelow (id_by_id (shown m x))) (map id_by_id (shown_from at leaves))
below_all m at x [] h = tt
below_all m at x (y ∷ more) h = (rw (below m at h), below_all m (at + 1) x more (omega arith))

falls : (at : ℕ) (leaves : List Leaf) → IsAscending IsBelow (map id_by_id (shown_from at leaves))
falls at [] = tt
falls at (x ∷ more) = (below_all at (at + 1) x more (omega arith), falls (at + 1) more)

front_stays : (ys zs : List Row) (o : Row) → take 1 ys ≡ o ∷ [] → take 1 (ys ++ zs) ≡ o ∷ []
front_stays [] zs o is = absurd cc
front_stays (y ∷ ys) zs o is = is

turned : (x : Output) (xs : List Output) → map (λ (p : Output). p.1) (reverse (x ∷ xs)) ≡ map (λ (p : Output). p.1) (reverse xs) ++ x.1 ∷ []
turned x xs = ap (map (λ (p : Output). p.1)) (reverse-append (x ∷ []) xs) ∙ map-append (λ (p : Output). p.1) (reverse xs) (x ∷ [])

last_of : (at : ℕ) (x : Leaf) (more : List Leaf)
    → take 1 (map (λ (p : Output). p.1) (reverse (map id_by_id (shown_from at (x ∷ more))))) ≡ id_row (at + length more) ∷ []
last_of at x [] = let same : at ≡ at + 0 = omega arith in ap (λ n. id_row n ∷ []) same
last_of at x (y ∷ more) =
    let rest = map id_by_id (shown_from (at + 1) (y ∷ more)) in
    let same : (at + 1) + length more ≡ at + length (y ∷ more) = omega arith in
    rw (turned (id_by_id (shown at x)) rest)
    (front_stays (map (λ (p : Output). p.1) (reverse rest)) (id_row at ∷ []) (id_row (at + length (y ∷ more)))
    (last_of (at + 1) y more ∙ ap (λ n. id_row n ∷ []) same))

pub lasts : (db : Trees) (leaves : List Leaf) (rows : List Row) → HasLeaves db leaves → IsAnswer last_query (overlay db []) [] rows
    → rows ≡ map id_row (last_ids leaves)
lasts db leaves rows has a =
    let kept : a.kept ≡ map id_by_id (map seen (db 0)) = a.distinct ∙ ap (map (output last_query)) a.grouped ∙ ids_of_all (db 0) in
    let same = IsPermutation-trans _ _ _ (IsPermutation-map id_by_id _ _ (IsPermutation-sym _ _ has)) (subst (λ k. IsPermutation k a.ordered) kept a.same) in
    let back = IsPermutation-trans _ _ _ (IsPermutation-sym _ _ (IsPermutation-reverse (map id_by_id (shown_from 1 leaves)))) same in
    let total = on_total (λ (o : Output). o.0) (key_cmp_total (down ∷ []) 0) in
    let order = reverse (map id_by_id (shown_from 1 leaves)) in
    let ordered = sorted_unique (output_cmp last_query) total order a.ordered (ascending-reverse IsBelow _ (falls 1 leaves)) back a.sorted in
    a.shown ∙ ap (λ xs. page last_query [] (map (λ (p : Output). p.1) xs)) ordered ∙ go leaves
  where
    go : (all : List Leaf) → page last_query [] (map (λ (p : Output). p.1) (reverse (map id_by_id (shown_from 1 all)))) ≡ map id_row (last_ids all)
    go [] = refl
    go (x ∷ more) = let same : 1 + length more ≡ suc (length more) = omega arith in last_of 1 x more ∙ ap (λ n. id_row n ∷ []) same
