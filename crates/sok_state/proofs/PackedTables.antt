-- A table of packed keys as the table of the keys that they stand for.
use Rattle.std.proofs.Common.{ℕ, ◌≡◌, ◌<◌, ◌↔◌, inl, inr, refl, sym, ap, ◌∙◌, subst, List, [], ◌∷◌, ◌++◌, true, suc, Some, None, Option, MatchOption, OnErr, Result, Ok, Err, position}
use Rattle.std.proofs.Common.{Contains, arith, length, get_or, map}
use Rattle.std.proofs.Common.{Bool, false, true≢false, slice_get, slice_set, length-append, ◌≤◌}
use Rattle.std.specs.List.{IsDistinct, list_any, position_or_len}
use Rattle.std.proofs.lemmas.List.{get_or-map, length-map}
use Rattle.std.proofs.lemmas.List.Elements.{Contains-push_cases}
use Rattle.std.proofs.lemmas.List.Sums.{position_or_len_is}
use Rattle.std.proofs.Math.ListN.{length-set}
use Rattle.std.proofs.lemmas.Map.Keys.{apart_from_distinct}
use Rattle.std.proofs.lemmas.Option.{slice_get_within, slice_get-get_or, get_or_from_slice_get}
use Rattle.std.proofs.lemmas.List.Quantifiers.{position-Some}
use Rattle.sok_rules.proofs.Proper.{fails_at_each, position-none}
use Rattle.std.specs.Map.{keys_of, values_of}
use Rattle.sok_board.proofs.Lists.{Contains-at}
use Rattle.sok_board.specs.Limits.{box_limit}
use Rattle.sok_state.specs.PackedKeys.{ArePacked, Stored, entries_of}
use Rattle.sok_state.specs.declared.key.Key.{Key}
use Rattle.sok_state.specs.Tables.{Entries, GoesLast, HasDistinctKeys, IsAt, Lowers, Stays}

-- the keys and the depths of such a table
pub keys-entries_of : {K : Type 0} (state_of : K → Key) (keys : List K) (depths : List ℕ) → length depths ≡ length keys → keys_of (entries_of state_of keys depths) ≡ map state_of keys
keys-entries_of state_of [] depths long = refl
keys-entries_of state_of (key ∷ keys) [] long = absurd (omega (arith, long))
keys-entries_of state_of (key ∷ keys) (depth ∷ depths) long = ap (λ ks. state_of key ∷ ks) (keys-entries_of state_of keys depths (omega (arith, long)))

pub values-entries_of : {K : Type 0} (state_of : K → Key) (keys : List K) (depths : List ℕ) → length depths ≡ length keys → values_of (entries_of state_of keys depths) ≡ depths
values-entries_of state_of [] [] long = refl
values-entries_of state_of [] (depth ∷ depths) long = absurd (omega (arith, long))
values-entries_of state_of (key ∷ keys) [] long = absurd (omega (arith, long))
values-entries_of state_of (key ∷ keys) (depth ∷ depths) long = ap (λ ds. depth ∷ ds) (values-entries_of state_of keys depths (omega (arith, long)))

pub length-entries_of : {K : Type 0} (state_of : K → Key) (keys : List K) (depths : List ℕ) → length depths ≡ length keys → length (entries_of state_of keys depths) ≡ length keys
length-entries_of state_of [] depths long = refl
length-entries_of state_of (key ∷ keys) [] long = absurd (omega (arith, long))
length-entries_of state_of (key ∷ keys) (depth ∷ depths) long = ap suc (length-entries_of state_of keys depths (omega (arith, long)))

-- one key more
pub entries_of-more : {K : Type 0} (state_of : K → Key) (keys : List K) (depths : List ℕ) (key : K) (depth : ℕ) → length depths ≡ length keys
    → entries_of state_of (keys ++ key ∷ []) (depths ++ depth ∷ []) ≡ entries_of state_of keys depths ++ (state_of key, depth) ∷ []
entries_of-more state_of [] [] key depth long = refl
entries_of-more state_of [] (d ∷ depths) key depth long = absurd (omega (arith, long))
entries_of-more state_of (k ∷ keys) [] key depth long = absurd (omega (arith, long))
entries_of-more state_of (k ∷ keys) (d ∷ depths) key depth long = ap (λ (es : Entries). (state_of k, d) ∷ es)
    (entries_of-more state_of keys depths key depth (omega (arith, long)))

-- what holds anyway holds behind a refusal
pub on_err : {X E : Type 0} (P : Type 0) (r : Result X E) → P → OnErr r P
on_err P (Ok x) holds = tt
on_err P (Err e) holds = holds

some_of : {X : Type 0} (xs : List X) → 0 < length xs → X
some_of [] within = absurd (omega (arith, within))
some_of (x ∷ xs) within = x

module _ {K : Type 0} (state_of : K → Key) (fits : K → Type 0) (keys : List K) (depths : List ℕ) (packed : ArePacked state_of fits keys depths) where
  -- an index of the entries that a table is seen to have is one of its depths
  pub depth-within : {spare : ℕ} (seen : Stored) (index : ℕ) → record { entries = entries_of state_of keys depths; spare = spare } ≡ seen
      → index < length seen.entries → index < length depths
  depth-within seen index is within =
      let long = packed.a_depth_each in
      let all = length-entries_of state_of keys depths long in
      let same = ap (λ (table : Stored). length table.entries) is in
      omega (arith, all, same, within, long)

  fit_at : (i : ℕ) (d : K) → i < length keys → fits (get_or keys i d)
  fit_at i d within = packed.fit i (get_or keys i d) (slice_get-get_or keys i d within)

  state_at : (i : ℕ) (d : Key) (e : K) → i < length keys → get_or (keys_of (entries_of state_of keys depths)) i d ≡ state_of (get_or keys i e)
  state_at i d e within = ap (λ ks. get_or ks i d) (keys-entries_of state_of keys depths packed.a_depth_each) ∙ get_or-map state_of keys i e d within

  pub count-keys : length (keys_of (entries_of state_of keys depths)) ≡ length keys
  count-keys = ap length (keys-entries_of state_of keys depths packed.a_depth_each) ∙ length-map keys state_of

  -- what stands in the table stands in the list
  pub IsAt-packed : (key : K) (i : ℕ) → slice_get keys i ≡ Some key → IsAt (entries_of state_of keys depths) (state_of key) i
  IsAt-packed key i at =
      let within = slice_get_within keys i key at in
      let long = count-keys in
      slice_get-get_or (keys_of (entries_of state_of keys depths)) i (state_of key) (omega (arith, within, long)) ∙ ap Some
      (state_at i (state_of key) key within ∙ ap state_of (get_or_from_slice_get keys i key key at))

  -- and each key of the table stands for one of the list
  pub forms : (key : Key) → Contains (keys_of (entries_of state_of keys depths)) key → (form : K) × fits form × (state_of form ≡ key)
  forms key (k, inside, is) =
      let long = count-keys in
      let within : k < length keys = omega (arith, inside, long) in
      let some = some_of keys (omega (arith, within)) in
      (get_or keys k some, fit_at k some within, sym (state_at k key some within) ∙ is)

  each_more : (key : K) → fits key → length (state_of key).boxes ≤ box_limit → (i : ℕ) (other : K) → slice_get (keys ++ key ∷ []) i ≡ Some other
      → fits other × (length (state_of other).boxes ≤ box_limit)
  each_more key fit few i other at = elim (Contains-push_cases keys key other (Contains-at (keys ++ key ∷ []) other i at)) [
    | inl (k, within, is) ↦ let here = slice_get-get_or keys k other within ∙ ap Some is in (packed.fit k other here, packed.few k other here)
    | inr same ↦ subst (λ one. fits one × (length (state_of one).boxes ≤ box_limit)) same (fit, few)
  ]

  pub ArePacked-more : (key : K) (depth : ℕ) → fits key → length (state_of key).boxes ≤ box_limit → ArePacked state_of fits (keys ++ key ∷ []) (depths ++ depth ∷ [])
  ArePacked-more key depth fit few = record {
    a_depth_each = let each = packed.a_depth_each in omega (arith, each, length-append {A = ℕ}, length-append {A = K});
    fit = λ i other at. (each_more key fit few i other at).0;
    few = λ i other at. (each_more key fit few i other at).1;
  }

  -- a smaller depth is written
  pub Lowers-packed : (index depth : ℕ) → index < length keys → depth < get_or depths index 0
      → Lowers (entries_of state_of keys depths) index depth true (entries_of state_of keys (slice_set depths index depth))
  Lowers-packed index depth within below =
      let long : length (slice_set depths index depth) ≡ length keys = length-set depths index depth ∙ packed.a_depth_each in
      record {
        smaller = (λ _. subst (λ ds. depth < get_or ds index 0) (sym (values-entries_of state_of keys depths packed.a_depth_each)) below, λ _. refl);
        keys = keys-entries_of state_of keys (slice_set depths index depth) long ∙ sym (keys-entries_of state_of keys depths packed.a_depth_each);
        depths = values-entries_of state_of keys (slice_set depths index depth) long ∙ ap (λ ds. slice_set ds index depth)
            (sym (values-entries_of state_of keys depths packed.a_depth_each));
      }

  -- and one that is no smaller is not
  pub Lowers-kept : (index depth : ℕ) → get_or depths index 0 ≤ depth
      → Lowers (entries_of state_of keys depths) index depth false (entries_of state_of keys depths)
  Lowers-kept index depth above = record {
    smaller = (
      λ e. absurd (true≢false (sym e)),
      λ below.
          let deep = ap (λ ds. get_or ds index 0) (values-entries_of state_of keys depths packed.a_depth_each) in
          absurd (omega (arith, above, below, deep)),
    );
    keys = refl;
    depths = refl;
  }

  module _ (eq : K → K → Bool) (tells : (a b : K) → fits a → fits b → (eq a b ≡ true) ↔ (state_of a ≡ state_of b)) where
    -- distinct packed keys stand for distinct keys
    pub distinct-states : IsDistinct eq keys → HasDistinctKeys (entries_of state_of keys depths)
    distinct-states distinct i j d below within same =
        let long = count-keys in
        let j_within : j < length keys = omega (arith, within, long) in
        let i_within : i < length keys = omega (arith, below, j_within) in
        let some = some_of keys (omega (arith, j_within)) in
        let states = sym (state_at i d some i_within) ∙ same ∙ state_at j d some j_within in
        true≢false (sym ((tells (get_or keys i some) (get_or keys j some) (fit_at i some i_within) (fit_at j some j_within)).1 states)
        ∙ apart_from_distinct eq keys i j some distinct below j_within)

    -- a key that is equal to none is not there
    absent-state : (key : K) → fits key → ((k : ℕ) (d : K) → k < length keys → eq key (get_or keys k d) ≡ false)
        → Contains (keys_of (entries_of state_of keys depths)) (state_of key) → ⊥
    absent-state key fit unequal (k, inside, is) =
        let long = count-keys in
        let within : k < length keys = omega (arith, inside, long) in
        let states = sym is ∙ state_at k (state_of key) key within in
        true≢false (sym ((tells key (get_or keys k key) fit (fit_at k key within)).1 states) ∙ unequal k key within)

    pub absent-packed : (key : K) → fits key → list_any (eq key) keys ≡ false
        → Contains (keys_of (entries_of state_of keys depths)) (state_of key) → ⊥
    absent-packed key fit none = absent-state key fit (fails_at_each (eq key) keys none)

    -- a key is found where it stands, and nowhere where it does not
    pub found-packed : (key : K) (r : Option ℕ) → fits key → r ≡ position (eq key) keys
        → MatchOption r (Contains (keys_of (entries_of state_of keys depths)) (state_of key) → ⊥) (IsAt (entries_of state_of keys depths) (state_of key))
    found-packed key None fit e = absent-state key fit (position-none (eq key) keys (sym e))
    found-packed key (Some index) fit e =
        let at = position-Some (eq key) keys index key (sym e) in
        let same = (tells key (get_or keys index key) fit (fit_at index key at.0)).0 at.1 in
        subst (λ k. IsAt (entries_of state_of keys depths) k index) (sym same)
        (IsAt-packed (get_or keys index key) index (slice_get-get_or keys index key at.0))

    pub GoesLast-packed : (key : K) (depth index : ℕ) → fits key → list_any (eq key) keys ≡ false → index ≡ position_or_len (eq key) keys
        → GoesLast (entries_of state_of keys depths) (state_of key) depth index (entries_of state_of (keys ++ key ∷ []) (depths ++ depth ∷ []))
    GoesLast-packed key depth index fit none at = record {
      absent = absent-packed key fit none;
      last = at ∙ position_or_len_is (eq key) keys (length keys) key (omega arith)
          (λ k within. fails_at_each (eq key) keys none k key within) (λ within. absurd (omega (arith, within)))
          ∙ sym (length-entries_of state_of keys depths packed.a_depth_each);
      more = entries_of-more state_of keys depths key depth packed.a_depth_each;
    }

    pub Stays-packed : (key stored : K) (index : ℕ) → fits key → slice_get keys index ≡ Some stored → eq key stored ≡ true
        → Stays (entries_of state_of keys depths) (state_of key) index (entries_of state_of keys depths)
    Stays-packed key stored index fit at equal = record {
      there = subst (λ k. IsAt (entries_of state_of keys depths) k index) (sym ((tells key stored fit (packed.fit index stored at)).0 equal))
          (IsAt-packed stored index at);
      unchanged = refl;
    }
