-- A row of a leaf is refused by no rule of the table, where its id is free and its text stands there once.
use Rattle.std.proofs.Common.{◌≡◌, ◌⊎◌, inl, inr, refl, ap, subst, ◌∙◌, ℕ, zero, suc, ℤ, ◌+◌, ◌<◌, ◌^◌, pos, List, [], ◌∷◌, length, map, arith}
use Rattle.std.proofs.Common.{Bool, true, false, not, ◌&&◌, ◌||◌, Option, Some, None, Err, slice_get, is_eq, bytes_eq, length-append, cond, nat_lt}
use Rattle.std.proofs.lemmas.Bool.{cases_Bool}
use Rattle.std.proofs.lemmas.Bool.Decides.{nat_tests}
use Rattle.std.proofs.lemmas.Slice.Eq.{bytes_eq-Decides}
use Rattle.std.specs.List.{AllByRecursion, list_any}
use Rattle.std.specs.Ordering.{is_ne}
use Rattle.std.specs.List.Sorted.{IsPermutation}
use Rattle.std.proofs.lemmas.List.Sorted.{IsPermutation-sym}
use Rattle.sqlite_trees.proofs.ListLemmas.{all-permutation, all_from_map, all_weaker}
use Rattle.sqlite_value.specs.Keys.{first_key}
use Rattle.sqlite_schema.specs.declared.schema.Constraint.TheVariants.{Datatype, NotNull, Check, PrimaryKey, Unique, ForeignKey}
use Rattle.sqlite_schema.specs.declared.schema.Keys.TheVariants.{Enforced}
use Rattle.sqlite_schema.specs.declared.schema.Keys.{Keys}
use Rattle.sqlite_schema.specs.Rules.{Keeps, are_typed, differ, equal, is_of}
use Rattle.sqlite_rules.specs.declared.error.Refusal.{Refusal}
use Rattle.sqlite_rules.specs.declared.error.Refusal.TheVariants.{Violates, Mismatch, NoRowid, BadReference, TooDeep}
use Rattle.sqlite_rules.specs.Lists.{Has}
use Rattle.sqlite_rules.specs.Action.{Leads, Writes, works}
use Rattle.sqlite.specs.declared.types.Value.TheVariants.{Null, Int, Text as Words, Blob as Bytes}
use Rattle.sqlite.specs.Kind.TheVariants.{Integer, Text, Blob}
use Rattle.sqlite.specs.Values.{or_null}
use Rattle.sqlite.specs.Order.{Row, value_cmp, column}
use Rattle.sqlite.specs.Ops.{binary}
use Rattle.sqlite.specs.Schema.{Schema}
use Rattle.sqlite.specs.Tree.{Trees, rowid, without_rowid, with_tree}
use Rattle.sqlite.specs.Edit.{Edit, IsOversized, IsRefused, are_fresh, edited, is_taken, left_by, taken_by}
use Rattle.sok_sql.specs.Leaves.{Leaf, level, level_schema, stored, values, seen, shown, shown_from}
use Rattle.sok_sql.specs.Causes.{AreApart}
use Rattle.sok_sql.proofs.Choosing.{truth_is}
use Rattle.sok_sql.proofs.Listing.{equal_texts}
use Rattle.sok_sql.proofs.Rows.{same_id, below}

-- ---- a write that sets off nothing else

-- it fails by a rule, or at a row that is too big
pub one_stop : (schema : Schema) (keys : Keys) (db : Trees) (edit : Edit) (end : Option Refusal)
    → works schema keys 0 edit.table.tree (taken_by db edit) edit.news ≡ [] → Writes schema keys db edit (Err end)
    → ((why : Refusal) × IsRefused schema keys db edit why) ⊎ ((row : Row) × Has edit.news row × IsOversized schema edit.table row)
one_stop schema keys db edit end none (inl (why, refused, is)) = inl (why, refused)
one_stop schema keys db edit end none (inr (inl (row, has, big, is))) = inr (row, has, big)
one_stop schema keys db edit end none (inr (inr (next, applies, settles))) = absurd (ended next settles.0 (rw none at settles.1))
  where
    ended : (next : Trees) (n : ℕ) → Leads schema keys n next [] (Err end) → ⊥
    ended next zero h = absurd (let e = h.1 in cc)
    ended next (suc n) h = absurd (omega (arith, ap length h.2, length-append h.0 (h.1 ∷ [])))

-- ---- the rules of one row

of_bytes : (o : Option (List ℕ)) → is_of Blob (or_null Bytes o) ≡ true
of_bytes None = refl
of_bytes (Some b) = refl

of_words : (o : Option (List ℕ)) → is_of Text (or_null Words o) ≡ true
of_words None = refl
of_words (Some w) = refl

of_count : (o : Option ℕ) → is_of Integer (or_null (λ n. Int (pos n)) o) ≡ true
of_count None = refl
of_count (Some n) = refl

typed : (leaf : Leaf) → are_typed level.key 0 level.columns (Null ∷ values leaf) ≡ true
typed leaf = rw (of_bytes leaf.title, of_words leaf.lurd, of_count leaf.pushes, of_count leaf.moves)

either_way : (b : Bool) → (not b || true) ≡ true
either_way true = refl
either_way false = refl

abbrev pub putting : List ℤ → ℕ → Leaf → Edit
putting gone id leaf = record { table = level; gone = gone; news = stored id leaf ∷ [] }

-- the row of a leaf in the place of some rows
module _ (db : Trees) (gone : List ℤ) (id : ℕ) (leaf : Leaf) (low : id < 2 ^ 32) where
  pub never_refused : are_fresh (left_by db (putting gone id leaf)) (stored id leaf ∷ []) ≡ true
      → Keeps Unique level_schema (with_tree db 0 (edited db (putting gone id leaf)))
      → (why : Refusal) → IsRefused level_schema Enforced db (putting gone id leaf) why → ⊥
  never_refused fresh once (Violates Datatype) is = absurd (let e = rw (typed leaf) at is in cc)
  never_refused fresh once (Violates NotNull) is = absurd cc
  never_refused fresh once (Violates Check) is = absurd cc
  never_refused fresh once (Violates PrimaryKey) is = absurd cc
  never_refused fresh once (Violates Unique) is = is once
  never_refused fresh once (Violates ForeignKey) is = is
  never_refused fresh once Mismatch is = absurd cc
  never_refused fresh once NoRowid is = absurd (let fits : nat_lt id (2 ^ 63) ≡ true = grind (arith, nat_tests) in let e = rw fits at is in cc)
  never_refused fresh once BadReference is = absurd (let e = rw (either_way (nat_lt 0 (length gone))) at is in cc)
  never_refused fresh once TooDeep is = is

-- ---- ids

none_any : {X : Type 0} (test : X → Bool) (xs : List X) → AllByRecursion (λ x. test x ≡ false) xs → list_any test xs ≡ false
none_any test [] none = refl
none_any test (x ∷ xs) none = rw none.0 (none_any test xs none.1)

all_shown : (P : Row → Type 0) (from : ℕ) (leaves : List Leaf)
    → ((k : ℕ) (leaf : Leaf) → slice_get leaves k ≡ Some leaf → P (shown (from + k) leaf)) → AllByRecursion P (shown_from from leaves)
all_shown P from [] each = tt
all_shown P from (leaf ∷ more) each =
    let here : from + 0 ≡ from = omega arith in (
      subst (λ i. P (shown i leaf)) here (each 0 leaf refl),
      all_shown P (from + 1) more (λ k other at.
          let same : from + suc k ≡ (from + 1) + k = omega arith in subst (λ i. P (shown i other)) same (each (suc k) other at)),
    )

-- what is true of what SQL sees of each row
all_seen : (P : Row → Type 0) (rows : List Row) (leaves : List Leaf) → IsPermutation (map seen rows) (shown_from 1 leaves)
    → AllByRecursion P (shown_from 1 leaves) → AllByRecursion (λ r. P (seen r)) rows
all_seen P rows leaves has all = all_from_map P seen rows (all-permutation P _ _ (IsPermutation-sym _ _ has) all)

in_range : {X : Type 0} (xs : List X) (k : ℕ) (x : X) → slice_get xs k ≡ Some x → k < length xs
in_range [] k x at = absurd cc
in_range (y ∷ ys) zero x at = omega arith
in_range (y ∷ ys) (suc k) x at = omega (arith, in_range ys k x at)

-- the next id is free
pub next_free : (rows : List Row) (leaves : List Leaf) (id : ℕ) (leaf : Leaf) → id ≡ 1 + length leaves
    → IsPermutation (map seen rows) (shown_from 1 leaves) → is_taken rows (stored id leaf) ≡ false
next_free rows leaves id leaf is has =
    none_any _ rows (all_seen (λ r. is_eq (value_cmp (column r 0) (Int (pos id))) ≡ false) rows leaves has
    (all_shown _ 1 leaves (λ k other at. let low : 1 + k < id = omega (arith, is, in_range leaves k other at) in rw (below (1 + k) id low))))

-- and so is one whose row is taken out
pub left_free : (rows : List Row) (id : ℕ) (leaf : Leaf) → is_taken (without_rowid (pos id) rows) (stored id leaf) ≡ false
left_free [] id leaf = refl
left_free (r ∷ rows) id leaf = go (is_eq (value_cmp (rowid r) (Int (pos id)))) refl (left_free rows id leaf)
  where
    go : (b : Bool) → is_eq (value_cmp (rowid r) (Int (pos id))) ≡ b → is_taken (without_rowid (pos id) rows) (stored id leaf) ≡ false
        → is_taken (cond (not b) (r ∷ without_rowid (pos id) rows) (without_rowid (pos id) rows)) (stored id leaf) ≡ false
    go true e rest = rest
    go false e rest = rw e rest

-- ---- texts

-- two rows, as SQL sees them, have one text and two ids
abbrev clash : Row → Row → Bool
clash a b = (equal (first_key (record { digits = 0 })).collation (column a 1) (column b 1) && true) && differ (column a 0) (column b 0)

same_differ : (n : ℕ) → differ (Int (pos n)) (Int (pos n)) ≡ false
unfolding binary
same_differ n = truth_is (is_ne (value_cmp (Int (pos n)) (Int (pos n)))) ∙ ap is_ne (same_id n)

no_clash : (leaves : List Leaf) → AreApart leaves → (m n : ℕ) (leaf other : Leaf) → slice_get leaves m ≡ Some leaf → slice_get leaves n ≡ Some other
    → clash (shown (1 + m) leaf) (shown (1 + n) other) ≡ false
unfolding first_key
no_clash leaves apart m n leaf other here there = elim (cases_Bool (bytes_eq leaf.text other.text)) [
  | inl same ↦
      let index = apart m n leaf other here there ((bytes_eq-Decides leaf.text other.text).0 same) in
      rw (equal_texts leaf.text other.text, same, index, same_differ (1 + n))
  | inr apart_texts ↦ rw (equal_texts leaf.text other.text, apart_texts)
]

-- the rows of such leaves keep the rule that a text stands there once
pub keeps_once : (db : Trees) (rows : List Row) (leaves : List Leaf) → AreApart leaves → IsPermutation (map seen rows) (shown_from 1 leaves)
    → Keeps Unique level_schema (with_tree db 0 rows)
keeps_once db rows leaves apart has =
    let pairs = all_shown (λ b. AllByRecursion (λ a. clash a b ≡ false) (shown_from 1 leaves)) 1 leaves (λ n other there.
    all_shown (λ a. clash a (shown (1 + n) other) ≡ false) 1 leaves (λ m leaf here. no_clash leaves apart m n leaf other here there)) in
    let rows_pairs = all_seen (λ b. AllByRecursion (λ a. clash (seen a) b ≡ false) rows) rows leaves has
    (all_weaker _ _ (λ b all. all_seen (λ a. clash a b ≡ false) rows leaves has all) _ pairs) in
    (all_weaker _ _ (λ row none. ap (λ b. not b && true) (none_any (λ other. clash (seen other) (seen row)) rows none)) rows rows_pairs, tt)
