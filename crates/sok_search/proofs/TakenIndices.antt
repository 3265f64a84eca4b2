-- An index that was taken out of the queue is done with, or a push from it is followed.
use Rattle.std.proofs.Common.{ℕ, ◌≡◌, ◌<◌, ◌≤◌, ◌+◌, ◌-◌, ◌*◌, ◌∙◌, inl, inr, refl, sym, ap, subst, List, [], ◌∷◌, Option, Some, Contains, arith, length, set}
use Rattle.std.proofs.Common.{slice_get, sum_by}
use Rattle.std.specs.Option.{IfSome}
use Rattle.std.specs.Map.{keys_of, values_of}
use Rattle.std.proofs.lemmas.Bool.{cases_eq}
use Rattle.std.proofs.lemmas.List.{length-append, length-set}
use Rattle.std.proofs.lemmas.List.Sums.{sum_by_push, sum_by-set}
use Rattle.std.proofs.lemmas.Option.{same_Some, slice_get_within, get_or_from_slice_get}
use Rattle.sok_board.specs.Area.{BoardView}
use Rattle.sok_board.proofs.Lists.{Contains-cons, Contains-cons_cases}
use Rattle.sok_state.specs.declared.key.Key.{Key}
use Rattle.sok_state.specs.Tables.{IsAt}
use Rattle.sok_search.specs.declared.note.Note.{Note}
use Rattle.sok_search.specs.declared.note.Standing.{Standing}
use Rattle.sok_search.specs.declared.note.Standing.TheVariants.{Open, Expanded, Dead, Lost}
use Rattle.sok_search.specs.Searches.{Progress, IsBeaten, IsCome, IsFollowedUp, IsNoted, IsReached, IsSearch, IsSolved, IsState, Stands}
use Rattle.sok_search.specs.Steps.{IsAdded, IsChanged, Queues, done, holding, work}
use Rattle.sok_search.proofs.Changing.{key_count, set_cases, set_same}
use Rattle.sok_search.proofs.Invariant.{Grows-refl, best-along, come-along, keeps, later-same}

left : (index : ℕ) (queue : List ℕ) (i : ℕ) → (i ≡ index → ⊥) → Contains (index ∷ queue) i → Contains queue i
left index queue i other waits = elim (Contains-cons_cases index i queue waits) [ inl same ↦ absurd (other (sym same)) | inr waits ↦ waits ]

pub keeps-done : (b : BoardView) (limit : ℕ) (p : Progress) (index : ℕ) (key : Key) (depth : ℕ) (note : Note) (notes : List Note) (best : Option ℕ)
    → IsSearch b limit (holding index p) → IsAt p.table key index → slice_get (values_of p.table) index ≡ Some depth
    → slice_get notes index ≡ Some note → length notes ≡ length p.notes
    → ((i : ℕ) (n : Note) → (i ≡ index → ⊥) → slice_get notes i ≡ Some n → slice_get p.notes i ≡ Some n)
    → ((n : ℕ) → IsBeaten p.best n → IsBeaten best n) → IfSome best (IsReached b (done p notes best)) → IsNoted b (done p notes best) index key depth note
    → IsSearch b limit (done p notes best)
keeps-done b limit p index key depth note notes best search there depth_is note_is as_many others better best_is noted =
    let q = done p notes best in
    let count = search.a_note_each in
    keeps b limit (holding index p) q search (record {
      frame = later-same b p.frame p.frame refl;
      distinct = search.distinct;
      a_note_each = omega (arith, as_many, count);
      few = search.few;
      queued = λ i waits. search.queued i (Contains-cons index i p.queue waits);
      grows = Grows-refl p.table;
      better = better;
      best = best_is;
      each = λ i k d n state. elim (cases_eq i index) [
        | inl same ↦
            let same_key : key ≡ k = same_Some key k (sym there ∙ ap (slice_get (keys_of p.table)) (sym same) ∙ state.there) in
            let same_depth : depth ≡ d = same_Some depth d (sym depth_is ∙ ap (slice_get (values_of p.table)) (sym same) ∙ state.depth_is) in
            let same_note : note ≡ n = same_Some note n (sym note_is ∙ ap (slice_get notes) (sym same) ∙ state.note_is) in
            inr (subst (λ m. IsNoted b q m k d n) (sym same)
            (subst (λ x. IsNoted b q index x d n) same_key
            (subst (λ x. IsNoted b q index key x n) same_depth (subst (IsNoted b q index key depth) same_note noted))))
        | inr other ↦ inl (record {
          state = record { there = state.there; depth_is = state.depth_is; note_is = others i n other state.note_is };
          waits = left
              index p.queue i other;
        })
      ];
    })

-- the note of the taken state, in what comes after
noted-done : (b : BoardView) (limit : ℕ) (p : Progress) (index : ℕ) (key : Key) (depth : ℕ) (was note : Note) (notes : List Note) (best : Option ℕ)
    → IsSearch b limit (holding index p) → IsState p index key depth was → note.origin ≡ was.origin
    → Stands b (done p notes best) index key depth note.standing → IsNoted b (done p notes best) index key depth note
noted-done b limit p index key depth was note notes best search state origin stands =
    let noted = search.noted index key depth was (record { there = state.there; depth_is = state.depth_is; note_is = state.note_is }) in
    let come : IsCome b (holding index p) key depth note.origin = subst (λ o. IsCome b (holding index p) key depth o) (sym origin) noted.come in
    record {
      state = noted.state;
      as_many = noted.as_many;
      shallow = noted.shallow;
      come = come-along b (holding index p) (done p notes best) (Grows-refl p.table) key depth note.origin come;
      stands = stands;
    }

-- it is expanded
pub keeps-expanded : (b : BoardView) (limit : ℕ) (p : Progress) (index : ℕ) (key : Key) (depth bound : ℕ) (was : Note) → IsSearch b limit (holding index p)
    → IsState p index key depth was → was.standing ≡ Open bound → (IsSolved b key → ⊥)
    → IsFollowedUp b p key depth
    → IsSearch b limit (done p (set p.notes index (record { origin = was.origin; standing = Expanded bound })) p.best)
keeps-expanded b limit p index key depth bound was search state is_open unsolved met =
    let note : Note = record { origin = was.origin; standing = Expanded bound } in
    let notes = set p.notes index note in
    let noted = search.noted index key depth was (record { there = state.there; depth_is = state.depth_is; note_is = state.note_is }) in
    let stood : Stands b (holding index p) index key depth (Open bound) = subst (Stands b (holding index p) index key depth) is_open noted.stands in
    keeps-done b limit p index key depth note notes p.best search state.there state.depth_is
    (set_same p.notes index note (slice_get_within p.notes index was state.note_is)) (length-set p.notes index note)
    (λ i n other there. elim (set_cases p.notes index note i n there) [ inl (same, _) ↦ absurd (other same) | inr (_, before) ↦ before ]) (λ n beaten. beaten)
    (best-along b (holding index p) (done p notes p.best) refl (Grows-refl p.table) p.best search.best)
    (noted-done b limit p index key depth was note notes p.best search state refl (stood.0, unsolved, met))

-- it is let go
pub keeps-dropped : (b : BoardView) (limit : ℕ) (p : Progress) (index : ℕ) (key : Key) (depth : ℕ) (was : Note) → IsSearch b limit (holding index p)
    → IsState p index key depth was → Stands b p index key depth was.standing → IsSearch b limit p
keeps-dropped b limit p index key depth was search state stands =
    keeps-done b limit p index key depth was p.notes p.best search state.there state.depth_is state.note_is refl (λ i n other there. there) (λ n beaten. beaten)
    (best-along b (holding index p) p refl (Grows-refl p.table) p.best search.best)
    (noted-done b limit p index key depth was was p.notes p.best search state refl stands)

-- it is solved
pub keeps-solved : (b : BoardView) (limit : ℕ) (p : Progress) (index : ℕ) (key : Key) (depth bound : ℕ) (was : Note) → IsSearch b limit (holding index p)
    → IsState p index key depth was → was.standing ≡ Open bound → IsSolved b key
    → ((n : ℕ) → IsBeaten p.best n → depth ≤ n) → IsSearch b limit (done p p.notes (Some depth))
keeps-solved b limit p index key depth bound was search state is_open solved less =
    let q = done p p.notes (Some depth) in
    let noted = search.noted index key depth was (record { there = state.there; depth_is = state.depth_is; note_is = state.note_is }) in
    let stood : Stands b (holding index p) index key depth (Open bound) = subst (Stands b (holding index p) index key depth) is_open noted.stands in
    let here : IsBeaten (Some depth) (depth + bound) = omega arith in
    let stands : Stands b q index key depth (Open bound) = (stood.0, inr here) in
    keeps-done b limit p index key depth was p.notes (Some depth) search state.there state.depth_is state.note_is refl (λ i n other there. there) less
    (inr (record { index = index; key = key; there = state.there; depth = depth; depth_is = state.depth_is; shallow = omega arith; solved = solved }))
    (noted-done b limit p index key depth was was p.notes (Some depth) search state refl (subst (Stands b q index key depth) (sym is_open) stands))

-- the same changes with an index that is held
queues-holding : (s : Standing) (index i : ℕ) (old new : List ℕ) → Queues s i old new → Queues s i (index ∷ old) (index ∷ new)
queues-holding (Open bound) index i old new queues = record {
  longer = let longer = queues.longer in omega (arith, longer);
  exact = λ j. (
    λ waits. elim (Contains-cons_cases index j new waits) [
      | inl same ↦ inr (subst (Contains (index ∷ old)) same (0, omega arith, refl))
      | inr later ↦ elim ((queues.exact j).0 later) [ inl same ↦ inl same | inr before ↦ inr (Contains-cons index j old before) ]
    ],
    λ cases. elim cases [
      | inl same ↦ Contains-cons index j new ((queues.exact j).1 (inl same))
      | inr waits ↦ elim (Contains-cons_cases index j old waits) [
        | inl same ↦ subst (Contains (index ∷ new)) same (0, omega arith, refl)
        | inr before ↦ Contains-cons index j new ((queues.exact j).1 (inr before))
      ]
    ],
  );
}
queues-holding (Expanded bound) index i old new queues = ap (λ queue. index ∷ queue) queues
queues-holding Dead index i old new queues = ap (λ queue. index ∷ queue) queues
queues-holding (Lost place) index i old new queues = ap (λ queue. index ∷ queue) queues

pub added-holding : (index : ℕ) (p : Progress) (key : Key) (depth : ℕ) (note : Note) (q : Progress) → IsAdded p key depth note q
    → IsAdded (holding index p) key depth note (holding index q)
added-holding index p key depth note q added = record {
  frame = added.frame;
  keys = added.keys;
  depths = added.depths;
  notes = added.notes;
  queue = queues-holding note.standing
      index (length p.table) p.queue q.queue added.queue;
  best = added.best;
}

pub changed-holding : (index : ℕ) (p : Progress) (at depth : ℕ) (note : Note) (q : Progress) → IsChanged p at depth note q
    → IsChanged (holding index p) at depth note (holding index q)
changed-holding index p at depth note q changed = record {
  frame = changed.frame;
  keys = changed.keys;
  depths = changed.depths;
  notes = changed.notes;
  queue = queues-holding
      note.standing index at p.queue q.queue changed.queue;
  best = changed.best;
}

-- the work that remains
one-room : (r k : ℕ) → (r + 1) * k ≡ r * k + k
one-room r k = omega arith

add-up : (before after now room sum sum_after queue queue_after depth : ℕ) → now ≡ after → before ≡ after + room → sum_after ≡ sum + depth
    → queue_after ≤ queue + 1 → 2 * depth + 1 ≤ room → now + (2 * sum_after + queue_after) ≤ before + (2 * sum + queue)
add-up before after now room sum sum_after queue queue_after depth e f g h i = omega arith

queue_length : (s : Standing) (i : ℕ) (old new : List ℕ) → Queues s i old new → length new ≤ length old + 1
queue_length (Open bound) i old new queues = let longer = queues.longer in omega (arith, longer)
queue_length (Expanded bound) i old new queues = let same = ap length queues in omega (arith, same)
queue_length Dead i old new queues = let same = ap length queues in omega (arith, same)
queue_length (Lost place) i old new queues = let same = ap length queues in omega (arith, same)

pub work-added : (limit : ℕ) (p : Progress) (key : Key) (depth : ℕ) (note : Note) (q : Progress) → IsAdded p key depth note q → depth ≤ length p.table
    → length p.table < limit → work limit q ≤ work limit p
work-added limit p key depth note q added shallow room =
    let n = length p.table in
    let keys = ap length added.keys in
    let one = length-append (keys_of p.table) (key ∷ []) in
    let new = key_count q.table in
    let old = key_count p.table in
    let count : length q.table ≡ n + 1 = omega (arith, keys, one, new, old) in
    let less : limit - n ≡ (limit - (n + 1)) + 1 = omega (arith, room) in
    let k = 2 * limit + 2 in
    let total = λ (depths : List ℕ). sum_by (λ d. d) depths in
    add-up ((limit - n) * k) ((limit - (n + 1)) * k) ((limit - length q.table) * k) k (total (values_of p.table)) (total (values_of q.table))
    (length p.queue) (length q.queue) depth
    (ap (λ m. (limit - m) * k) count) (ap (λ m. m * k) less ∙ one-room (limit - (n + 1)) k)
    (ap total added.depths ∙ sum_by_push (λ d. d) (values_of p.table) depth)
    (queue_length note.standing n p.queue q.queue added.queue) (omega (arith, shallow, room))

lower-down : (before now sum sum_after queue queue_after depth old : ℕ) → now ≡ before → sum_after + old ≡ sum + depth → depth < old
    → queue_after ≤ queue + 1 → now + (2 * sum_after + queue_after) ≤ before + (2 * sum + queue)
lower-down before now sum sum_after queue queue_after depth old e f g h = omega arith

pub work-changed : (limit : ℕ) (p : Progress) (index old depth : ℕ) (note : Note) (q : Progress) → IsChanged p index depth note q
    → slice_get (values_of p.table) index ≡ Some old → depth < old → work limit q ≤ work limit p
work-changed limit p index old depth note q changed depth_is lower =
    let keys = ap length changed.keys in
    let new = key_count q.table in
    let before = key_count p.table in
    let count : length q.table ≡ length p.table = omega (arith, keys, new, before) in
    let k = 2 * limit + 2 in
    let total = λ (depths : List ℕ). sum_by (λ d. d) depths in
    let within = slice_get_within (values_of p.table) index old depth_is in
    let swapped = sum_by-set (λ d. d) (values_of p.table) index depth 0 within in
    let was = get_or_from_slice_get (values_of p.table) index old 0 depth_is in
    let after = ap total changed.depths in
    lower-down ((limit - length p.table) * k) ((limit - length q.table) * k) (total (values_of p.table)) (total (values_of q.table)) (length p.queue)
    (length q.queue) depth old
    (ap (λ m. (limit - m) * k) count) (omega (arith, swapped, was, after)) lower
    (queue_length note.standing index p.queue q.queue changed.queue)
