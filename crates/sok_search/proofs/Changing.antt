-- What holds of a search holds after a state is added, or has another depth and note.
use Rattle.std.proofs.Common.{ℕ, ◌≡◌, ◌≢◌, ◌<◌, ◌≤◌, ◌+◌, ◌∙◌, ◌⊎◌, inl, inr, refl, sym, ap, subst, List, [], ◌∷◌, ◌++◌, zero, suc, Some, All}
use Rattle.std.proofs.Common.{AllPairs, Contains, arith, length, get_or, set, slice_get}
use Rattle.std.specs.Option.{IfSome}
use Rattle.std.specs.Map.{keys_of, values_of}
use Rattle.std.proofs.lemmas.Option.{none-some, same_Some, slice_get_within}
use Rattle.std.proofs.lemmas.Bool.{cases_eq}
use Rattle.std.proofs.lemmas.List.{get_or_default, length-append, length-map, length-set}
use Rattle.sok_board.specs.Area.{BoardView, boxes_of}
use Rattle.sok_board.proofs.Lists.{AllPairs-append, slice_get-append, slice_get-push_cases}
use Rattle.sok_state.specs.Keys.{IsKey}
use Rattle.sok_state.specs.declared.key.Key.{Key}
use Rattle.sok_state.specs.Tables.{Entries, HasDistinctKeys}
use Rattle.sok_search.specs.declared.note.Note.{Note}
use Rattle.sok_search.specs.declared.note.Standing.{Standing}
use Rattle.sok_search.specs.declared.note.Standing.TheVariants.{Open, Expanded, Dead, Lost}
use Rattle.sok_search.specs.Searches.{Progress, IsBeaten, Frame, IsCome, IsNoted, IsReached, IsSearch, IsState, Stands}
use Rattle.sok_search.specs.Steps.{Grows, IsAdded, IsChanged, IsJudgedIn, Queues}
use Rattle.sok_search.proofs.StatesByIndex.{key-within}
use Rattle.sok_search.proofs.Invariant.{come-along, IsUnchanged, best-along, keeps, later-same}

-- an element of a list that has another at one place
pub set_cases : {X : Type 0} (xs : List X) (j : ℕ) (y : X) (i : ℕ) (x : X) → slice_get (set xs j y) i ≡ Some x
    → ((i ≡ j) × (y ≡ x)) ⊎ ((i ≡ j → ⊥) × (slice_get xs i ≡ Some x))
set_cases [] j y i x there = absurd (none-some x there)
set_cases (z ∷ zs) zero y zero x there = inl (refl, same_Some y x there)
set_cases (z ∷ zs) zero y (suc i) x there = inr (λ same. omega (arith, same), there)
set_cases (z ∷ zs) (suc j) y zero x there = inr (λ same. omega (arith, same), there)
set_cases (z ∷ zs) (suc j) y (suc i) x there = elim (set_cases zs j y i x there) [
  | inl (same, is) ↦ inl (omega (arith, same), is)
  | inr (other, at) ↦ inr (λ same. other (omega (arith, same)), at)
]

pub set_same : {X : Type 0} (xs : List X) (j : ℕ) (y : X) → j < length xs → slice_get (set xs j y) j ≡ Some y
set_same [] j y within = absurd (omega (arith, within))
set_same (z ∷ zs) zero y within = refl
set_same (z ∷ zs) (suc j) y within = set_same zs j y (omega (arith, within))

pub set_other : {X : Type 0} (xs : List X) (j : ℕ) (y : X) (i : ℕ) (x : X) → (i ≡ j → ⊥) → slice_get xs i ≡ Some x → slice_get (set xs j y) i ≡ Some x
set_other [] j y i x other there = there
set_other (z ∷ zs) zero y zero x other there = absurd (other refl)
set_other (z ∷ zs) zero y (suc i) x other there = there
set_other (z ∷ zs) (suc j) y zero x other there = there
set_other (z ∷ zs) (suc j) y (suc i) x other there = set_other zs j y i x (λ same. other (omega (arith, same))) there

push-before : {X : Type 0} (xs : List X) (y : X) (i : ℕ) (x : X) → i < length xs → slice_get (xs ++ y ∷ []) i ≡ Some x → slice_get xs i ≡ Some x
push-before xs y i x within there = elim (slice_get-push_cases xs y i x there) [ inl before ↦ before | inr (last, is) ↦ absurd (omega (arith, last, within)) ]

push-last : {X : Type 0} (xs : List X) (y : X) (i : ℕ) (x : X) → i ≡ length xs → slice_get (xs ++ y ∷ []) i ≡ Some x → y ≡ x
push-last xs y i x last there = elim (slice_get-push_cases xs y i x there) [
  | inl before ↦ let within = slice_get_within xs i x before in absurd (omega (arith, last, within))
  | inr (_, is) ↦ is
]

-- what waited waits
queues-waits : (s : Standing) (index : ℕ) (old new : List ℕ) → Queues s index old new → (i : ℕ) → Contains old i → Contains new i
queues-waits (Open bound) index old new queues i waits = (queues.exact i).1 (inr waits)
queues-waits (Expanded bound) index old new queues i waits = subst (λ queue. Contains queue i) (sym queues) waits
queues-waits Dead index old new queues i waits = subst (λ queue. Contains queue i) (sym queues) waits
queues-waits (Lost place) index old new queues i waits = subst (λ queue. Contains queue i) (sym queues) waits

pub queues-cases : (s : Standing) (index : ℕ) (old new : List ℕ) → Queues s index old new → (i : ℕ) → Contains new i → (i ≡ index) ⊎ Contains old i
queues-cases (Open bound) index old new queues i waits = (queues.exact i).0 waits
queues-cases (Expanded bound) index old new queues i waits = inr (subst (λ queue. Contains queue i) queues waits)
queues-cases Dead index old new queues i waits = inr (subst (λ queue. Contains queue i) queues waits)
queues-cases (Lost place) index old new queues i waits = inr (subst (λ queue. Contains queue i) queues waits)

-- a state that is judged stands, once it waits
pub stands-judged : (b : BoardView) (q : Progress) (old : List ℕ) (i : ℕ) (key : Key) (depth : ℕ) (s : Standing)
    → IsJudgedIn b q.frame key s → Queues s i old q.queue → Stands b q i key depth s
stands-judged b q old i key depth (Open bound) prices queues = (prices, inl ((queues.exact i).1 (inl refl)))
stands-judged b q old i key depth (Expanded bound) none queues = absurd none
stands-judged b q old i key depth Dead dead queues = dead
stands-judged b q old i key depth (Lost place) lost queues = lost

-- a new state, before it is added
pub record IsFit (b : BoardView) (p : Progress) (i : ℕ) (key : Key) (depth : ℕ) (note : Note) : Type 0 where
  pub state : IsKey b key
  pub as_many : length key.boxes ≡ length (boxes_of b)
  pub shallow : depth ≤ i
  pub come : IsCome b p key depth note.origin
  pub judged : IsJudgedIn b p.frame key note.standing

fit-noted : (b : BoardView) (p q : Progress) (i : ℕ) (key : Key) (depth : ℕ) (note : Note) → q.frame ≡ p.frame → Grows p.table q.table
    → Queues note.standing i p.queue q.queue
    → IsFit b p i key depth note → IsNoted b q i key depth note
fit-noted b p q i key depth note same grows queues fit = record {
  state = fit.state;
  as_many = fit.as_many;
  shallow = fit.shallow;
  come = come-along b p q grows key depth note.origin fit.come;
  stands = stands-judged b q p.queue i key depth note.standing (subst (λ frame. IsJudgedIn b frame key note.standing) (sym same) fit.judged) queues;
}

same_best : (b : BoardView) (p q : Progress) → q.best ≡ p.best → (n : ℕ) → IsBeaten p.best n → IsBeaten q.best n
same_best b p q same n beaten = subst (λ best. IsBeaten best n) (sym same) beaten

best-of : (b : BoardView) (p q : Progress) → q.frame ≡ p.frame → Grows p.table q.table → q.best ≡ p.best → IfSome p.best (IsReached b p)
    → IfSome q.best (IsReached b q)
best-of b p q frame grows same best =
    subst (λ o. IfSome o (IsReached b q)) (sym same) (best-along b p q (ap (λ (f : Frame). f.aim) frame) grows p.best best)

differs : (keys : List Key) (key : Key) → (Contains keys key → ⊥) → All (λ k. All (λ other. k ≢ other) (key ∷ [])) keys
differs keys key absent = λ k d within n other_d n_within same.
    let first : n ≡ 0 = omega (arith, n_within) in
    absent (k, within, get_or_default keys k key d within ∙ same ∙ ap (λ m. get_or (key ∷ []) m other_d) first)

-- how many keys and depths a table has
pub key_count : (table : Entries) → length (keys_of table) ≡ length table
key_count table = length-map table (λ (entry : Key × ℕ). entry.0)

pub depth_count : (table : Entries) → length (values_of table) ≡ length table
depth_count table = length-map table (λ (entry : Key × ℕ). entry.1)

module _ (b : BoardView) (limit : ℕ) (p q : Progress) (key : Key) (depth : ℕ) (note : Note) (search : IsSearch b limit p)
    (added : IsAdded p key depth note q) where
  pub added-grows : Grows p.table q.table
  added-grows = record {
    keys = λ other i there. subst (λ keys. slice_get keys i ≡ Some other) (sym added.keys) (slice_get-append (keys_of p.table) (key ∷ []) i other there);
    depths = λ i deep there. (
      deep,
      subst (λ depths. slice_get depths i ≡ Some deep) (sym added.depths)
          (slice_get-append (values_of p.table) (depth ∷ []) i deep there),
      omega arith,
    );
  }

  added-count : length q.table ≡ length p.table + 1
  added-count =
      let new = key_count q.table in
      let old = key_count p.table in
      let keys = ap length added.keys in
      let one = length-append (keys_of p.table) (key ∷ []) in
      omega (arith, new, old, keys, one)

  added-distinct : (Contains (keys_of p.table) key → ⊥) → HasDistinctKeys q.table
  added-distinct absent = subst (AllPairs (λ k other. k ≢ other)) (sym added.keys)
      (AllPairs-append (λ k other. k ≢ other) (keys_of p.table) (key ∷ []) search.distinct (λ n m d below within. absurd (omega (arith, below, within)))
      (differs (keys_of p.table) key absent))

  -- the new state, or one that was there
  added-cases : IsFit b p (length p.table) key depth note → (i : ℕ) (k : Key) (d : ℕ) (n : Note) → IsState q i k d n
      → IsUnchanged p q i k d n ⊎ IsNoted b q i k d n
  added-cases fit i k d n state =
      let keys = key_count p.table in
      let depths = depth_count p.table in
      let notes = search.a_note_each in
      let there : slice_get (keys_of p.table ++ key ∷ []) i ≡ Some k = subst (λ xs. slice_get xs i ≡ Some k) added.keys state.there in
      let depth_is : slice_get (values_of p.table ++ depth ∷ []) i ≡ Some d = subst (λ xs. slice_get xs i ≡ Some d) added.depths state.depth_is in
      let note_is : slice_get (p.notes ++ note ∷ []) i ≡ Some n = subst (λ xs. slice_get xs i ≡ Some n) added.notes state.note_is in
      elim (slice_get-push_cases (keys_of p.table) key i k there) [
        | inl before ↦
            let within = slice_get_within (keys_of p.table) i k before in
            inl (record {
              state = record {
                there = before;
                depth_is = push-before (values_of p.table) depth i d
                    (omega (arith, within, keys, depths)) depth_is;
                note_is = push-before p.notes note i n (omega (arith, within, keys, notes)) note_is;
              };
              waits = queues-waits note.standing (length p.table) p.queue q.queue added.queue i;
            })
        | inr (last, is) ↦
            let same_depth = push-last (values_of p.table) depth i d (omega (arith, last, keys, depths)) depth_is in
            let same_note = push-last p.notes note i n (omega (arith, last, keys, notes)) note_is in
            let at : length p.table ≡ i = omega (arith, last, keys) in
            let noted = fit-noted b p q (length p.table) key depth note added.frame added-grows added.queue fit in
            inr (subst (λ m. IsNoted b q m k d n) at
            (subst (λ x. IsNoted b q (length p.table) x d n) is
            (subst (λ x. IsNoted b q (length p.table) key x n) same_depth (subst (IsNoted b q (length p.table) key depth) same_note noted))))
      ]

  pub keeps-added : (Contains (keys_of p.table) key → ⊥) → length p.table < limit → IsFit b p (length p.table) key depth note → IsSearch b limit q
  keeps-added absent room fit =
      let count = added-count in
      let notes = search.a_note_each in
      let one = ap length added.notes in
      let more = length-append p.notes (note ∷ []) in
      keeps b limit p q search (record {
        frame = later-same b p.frame q.frame added.frame;
        distinct = added-distinct absent;
        a_note_each = omega (arith, count, notes, one, more);
        few = omega (arith, count, room);
        queued = λ i waits. elim (queues-cases note.standing (length p.table) p.queue q.queue added.queue i waits) [
          | inl last ↦ omega (arith, count, last)
          | inr waited ↦ let within = search.queued i waited in omega (arith, count, within)
        ];
        grows = added-grows;
        better = same_best b p q added.best;
        best = best-of b p q added.frame added-grows added.best search.best;
        each = added-cases fit;
      })

module _ (b : BoardView) (limit : ℕ) (p q : Progress) (index : ℕ) (key : Key) (old depth : ℕ) (was note : Note) (search : IsSearch b limit p)
    (state : IsState p index key old was) (lower : depth ≤ old) (changed : IsChanged p index depth note q) where
  pub changed-grows : Grows p.table q.table
  changed-grows = record {
    keys = λ other i there. subst (λ keys. slice_get keys i ≡ Some other) (sym changed.keys) there;
    depths = λ i deep there. elim (cases_eq i index) [
      | inl same ↦
          let is : old ≡ deep = same_Some old deep (sym state.depth_is ∙ ap (slice_get (values_of p.table)) (sym same) ∙ there) in (
            depth,
            subst (λ depths. slice_get depths i ≡ Some depth) (sym changed.depths)
                (subst (λ j. slice_get (set (values_of p.table) index depth) j ≡ Some depth) (sym same)
                (set_same (values_of p.table) index depth (slice_get_within (values_of p.table) index old state.depth_is))),
            omega (arith, lower, is),
          )
      | inr other ↦ (
        deep,
        subst (λ depths. slice_get depths i ≡ Some deep) (sym changed.depths)
            (set_other (values_of p.table) index depth i deep other there),
        omega arith,
      )
    ];
  }

  changed-count : length q.table ≡ length p.table
  changed-count =
      let new = key_count q.table in
      let before = key_count p.table in
      let keys = ap length changed.keys in
      omega (arith, new, before, keys)

  changed-cases : IsNoted b q index key depth note → (i : ℕ) (k : Key) (d : ℕ) (n : Note) → IsState q i k d n → IsUnchanged p q i k d n ⊎ IsNoted b q i k d n
  changed-cases noted i k d n there =
      let key_there : slice_get (keys_of p.table) i ≡ Some k = subst (λ xs. slice_get xs i ≡ Some k) changed.keys there.there in
      let depth_is : slice_get (set (values_of p.table) index depth) i ≡ Some d = subst (λ xs. slice_get xs i ≡ Some d) changed.depths there.depth_is in
      let note_is : slice_get (set p.notes index note) i ≡ Some n = subst (λ xs. slice_get xs i ≡ Some n) changed.notes there.note_is in
      elim (set_cases (values_of p.table) index depth i d depth_is) [
        | inl (same, same_depth) ↦ elim (set_cases p.notes index note i n note_is) [
          | inl (_, same_note) ↦
              let is : key ≡ k = same_Some key k (sym state.there ∙ ap (slice_get (keys_of p.table)) (sym same) ∙ key_there) in
              inr (subst (λ m. IsNoted b q m k d n) (sym same)
              (subst (λ x. IsNoted b q index x d n) is
              (subst (λ x. IsNoted b q index key x n) same_depth (subst (IsNoted b q index key depth) same_note noted))))
          | inr (other, _) ↦ absurd (other same)
        ]
        | inr (other, before) ↦ elim (set_cases p.notes index note i n note_is) [
          | inl (same, _) ↦ absurd (other same)
          | inr (_, note_before) ↦ inl (record {
            state = record { there = key_there; depth_is = before; note_is = note_before };
            waits = queues-waits note.standing index p.queue q.queue changed.queue i;
          })
        ]
      ]

  pub keeps-changed : IsFit b p index key depth note → IsSearch b limit q
  keeps-changed fit =
      let count = changed-count in
      let notes = search.a_note_each in
      let one = ap length changed.notes in
      let as_long = length-set p.notes index note in
      let few = search.few in
      let keys = changed.keys in
      keeps b limit p q search (record {
        frame = later-same b p.frame q.frame changed.frame;
        distinct = subst (AllPairs (λ k other. k ≢ other)) (sym keys) search.distinct;
        a_note_each = omega (arith, count, notes, one, as_long);
        few = omega (arith, count, few);
        queued = λ i waits. elim (queues-cases note.standing index p.queue q.queue changed.queue i waits) [
          | inl here ↦ let within = key-within p index key state.there in omega (arith, count, here, within)
          | inr waited ↦ let within = search.queued i waited in omega (arith, count, within)
        ];
        grows = changed-grows;
        better = same_best b p q changed.best;
        best = best-of b p q changed.frame changed-grows changed.best search.best;
        each = changed-cases (fit-noted b p q index key depth note changed.frame changed-grows changed.queue fit);
      })
