-- A table holds as many states as it may, and one more is reached: there are more states.
use Rattle.std.proofs.Common.{ℕ, ◌≡◌, ◌+◌, ◌∙◌, ◌++◌, ◌∷◌, [], inl, inr, refl, sym, subst, List, zero, suc, Some, Contains, arith, length, get_or, map, slice_get}
use Rattle.std.specs.Map.{keys_of}
use Rattle.std.proofs.lemmas.List.{length_push, length-map}
use Rattle.std.proofs.lemmas.Option.{none-some, same_Some, slice_get-get_or}
use Rattle.sok_rules.specs.Play.{Position}
use Rattle.sok_rules.specs.States.{MoreStatesFrom, ReachedFrom, Same}
use Rattle.sok_board.specs.Area.{BoardView, IsAccepted}
use Rattle.sok_board.proofs.Lists.{Contains-at, slice_get-push_cases}
use Rattle.sok_state.specs.declared.key.Key.{Key}
use Rattle.sok_state.specs.Keys.{IsKeyOf, key_position}
use Rattle.sok_state.specs.Tables.{Entries, HasDistinctKeys, IsAt}
use Rattle.sok_state.proofs.Placed.{IsStanding-placed}
use Rattle.sok_state.proofs.States.{keys_equal}
use Rattle.sok_closed.proofs.Looking.{same_index}

map_back : {X Y : Type 0} (f : X → Y) (xs : List X) (i : ℕ) (y : Y) → slice_get (map f xs) i ≡ Some y → (x : X) × (slice_get xs i ≡ Some x) × (f x ≡ y)
map_back f [] i y there = absurd (none-some y there)
map_back f (x ∷ xs) zero y there = (x, refl, same_Some (f x) y there)
map_back f (x ∷ xs) (suc i) y there = map_back f xs i y there

module _ (b : BoardView) (accepted : IsAccepted b) (from : Position) where
  -- the key of a state that is reached
  pub record IsOfReached (key : Key) : Type 0 where
    pub itself : IsKeyOf b (key_position b key) key
    pub reached : ReachedFrom b.rows from (key_position b key)

  -- some of them, no two of them equal
  record AreOfReached (keys : List Key) : Type 0 where
    pub each : (i : ℕ) (key : Key) → slice_get keys i ≡ Some key → IsOfReached key
    pub distinct : (i j : ℕ) (key : Key) → slice_get keys i ≡ Some key → slice_get keys j ≡ Some key → i ≡ j

  -- equal keys are those of one state
  one-state : (key other : Key) → IsOfReached key → IsOfReached other → Same b.rows (key_position b key) (key_position b other) → key ≡ other
  one-state key other one two same =
      let standing = IsStanding-placed b accepted.numbered accepted.proper key.least key.boxes one.itself.placed in
      keys_equal b accepted.numbered (key_position b key) (key_position b other) key other standing one.itself two.itself same

  -- so many states there are
  many-states : (n : ℕ) (keys : List Key) → length keys ≡ n + 1 → AreOfReached keys → MoreStatesFrom b.rows from n
  many-states n keys long are =
      let positions = map (key_position b) keys in
      let count = length-map keys (key_position b) in
      record {
        positions = positions;
        many = omega (arith, count, long);
        reached = λ k d within.
            let (key, there, is) = map_back (key_position b) keys k (get_or positions k d) (slice_get-get_or positions k d within) in
            subst (ReachedFrom b.rows from) is (are.each k key there).reached;
        apart = λ i j x y x_there y_there same.
            let (key, there, is) = map_back (key_position b) keys i x x_there in
            let (other, other_there, other_is) = map_back (key_position b) keys j y y_there in
            let joined : Same b.rows (key_position b key) (key_position b other) = subst (λ z. Same b.rows z (key_position b other)) (sym is)
            (subst (Same b.rows x) (sym other_is) same) in
            let equal = one-state key other (are.each i key there) (are.each j other other_there) joined in
            are.distinct i j other (subst (λ k. slice_get keys i ≡ Some k) equal there) other_there;
      }

  -- a table of them, and one more that it lacks
  pub one-more : (limit : ℕ) (table : Entries) → HasDistinctKeys table → length table ≡ limit → ((i : ℕ) (key : Key) → IsAt table key i → IsOfReached key)
      → (key : Key) → IsOfReached key → (Contains (keys_of table) key → ⊥) → MoreStatesFrom b.rows from limit
  one-more limit table distinct full each key reached absent =
      let keys = keys_of table in
      let count = length-map table (λ (pair : Key × ℕ). pair.0) in
      let longer = length_push keys key in
      many-states limit (keys ++ key ∷ []) (omega (arith, full, count, longer)) (record {
        each = λ i other at. elim (slice_get-push_cases keys key i other at) [
          | inl before ↦ each i other before
          | inr (last, same) ↦ subst IsOfReached same reached
        ];
        distinct = λ i j other i_at j_at. elim (slice_get-push_cases keys key i other i_at) [
          | inl i_before ↦ elim (slice_get-push_cases keys key j other j_at) [
            | inl j_before ↦ same_index table distinct other i j i_before j_before
            | inr (last, same) ↦ absurd (absent (subst (Contains keys) (sym same) (Contains-at keys other i i_before)))
          ]
          | inr (i_last, i_same) ↦ elim (slice_get-push_cases keys key j other j_at) [
            | inl j_before ↦ absurd (absent (subst (Contains keys) (sym i_same) (Contains-at keys other j j_before)))
            | inr (j_last, j_same) ↦ i_last ∙ sym j_last
          ]
        ];
      })
