-- A search that knows the start alone.
use Rattle.std.proofs.Common.{ℕ, ◌≡◌, ◌≢◌, ◌<◌, ◌≤◌, ◌∙◌, inl, inr, sym, ap, subst, [], ◌∷◌, Option, Some, None, AllPairs, arith, length, slice_get}
use Rattle.std.specs.Option.{IfSome}
use Rattle.std.proofs.lemmas.Option.{same_Some, slice_get_within}
use Rattle.sok_rules.specs.Play.{start}
use Rattle.sok_board.specs.Area.{BoardView, boxes_of}
use Rattle.sok_state.specs.declared.key.Key.{Key}
use Rattle.sok_state.specs.Keys.{IsKey, IsKeyOf}
use Rattle.sok_alone.specs.Losses.{KeepsLosses}
use Rattle.sok_search.specs.declared.note.Note.{Note}
use Rattle.sok_search.specs.Searches.{Frame, Progress, IsBeaten, IsCome, IsNoted, IsReached, IsSearch}
use Rattle.sok_search.specs.Steps.{IsAdded, IsJudgedIn}
use Rattle.sok_search.proofs.Changing.{key_count, queues-cases, stands-judged}

abbrev pub nothing : Frame → Progress
nothing frame = record { frame = frame; table = []; notes = []; queue = []; best = frame.aim.upper }

-- the solution that is known beside it is the best
beside : (b : BoardView) (q : Progress) (upper : Option ℕ) → q.frame.aim.upper ≡ upper → IfSome upper (IsReached b q)
beside b q None is = tt
beside b q (Some k) is = inl is

-- with one element, it stands first
only : {X : Type 0} (x : X) (i : ℕ) (y : X) → slice_get (x ∷ []) i ≡ Some y → (i ≡ 0) × (x ≡ y)
only x i y there =
    let within = slice_get_within (x ∷ []) i y there in
    let first : i ≡ 0 = omega (arith, within) in
    (first, same_Some x y (ap (slice_get (x ∷ [])) (sym first) ∙ there))

module _ (b : BoardView) (limit : ℕ) (frame : Frame) (positive : 0 < limit) (wide : length b.area ≤ frame.room)
    (losses : KeepsLosses b frame.losses) (key : Key) (note : Note) (q : Progress)
    (added : IsAdded (nothing frame) key 0 note q)
    (state : IsKey b key) (is : IsKeyOf b (start b.rows) key) (as_many : length key.boxes ≡ length (boxes_of b))
    (origin : note.origin ≡ None) (judged : IsJudgedIn b frame key note.standing) where
  noted : IsNoted b q 0 key 0 note
  noted = record {
    state = state;
    as_many = as_many;
    shallow = omega arith;
    come = subst (IsCome b q key 0) (sym origin) is;
    stands = stands-judged b q [] 0 key 0 note.standing (subst (λ f. IsJudgedIn b f key note.standing) (sym added.frame) judged) added.queue;
  }

  pub begun : IsSearch b limit q
  begun =
      let count = key_count q.table in
      let keys = ap length added.keys in
      let notes = ap length added.notes in
      record {
        wide = let same = ap (λ (f : Frame). f.room) added.frame in omega (arith, wide, same);
        losses = subst (λ (f : Frame). KeepsLosses b f.losses) (sym added.frame) losses;
        distinct = subst (AllPairs (λ k other. k ≢ other)) (sym added.keys) (λ i j d below within. absurd (omega (arith, below, within)));
        a_note_each = omega (arith, count, keys, notes);
        few = omega (arith, count, keys, positive);
        queued = λ i waits. elim (queues-cases note.standing 0 [] q.queue added.queue i waits) [
          | inl first ↦ omega (arith, count, keys, first)
          | inr (k, within, _) ↦ absurd (omega (arith, within))
        ];
        begun = record { key = key; there = ap (λ ks. slice_get ks 0) added.keys; depth_is = ap (λ ds. slice_get ds 0) added.depths; is = is };
        noted = λ i k d n here.
            let (first, same_key) = only key i k (subst (λ xs. slice_get xs i ≡ Some k) added.keys here.there) in
            let (_, same_depth) = only 0 i d (subst (λ xs. slice_get xs i ≡ Some d) added.depths here.depth_is) in
            let (_, same_note) = only note i n (subst (λ xs. slice_get xs i ≡ Some n) added.notes here.note_is) in
            subst (λ m. IsNoted b q m k d n) (sym first)
            (subst (λ x. IsNoted b q 0 x d n) same_key (subst (λ x. IsNoted b q 0 key x n) same_depth (subst (IsNoted b q 0 key 0) same_note noted)));
        best = subst (λ o. IfSome o (IsReached b q)) (sym added.best) (beside b q frame.aim.upper (ap (λ (f : Frame). f.aim.upper) added.frame));
        upper = λ n beaten. subst (λ o. IsBeaten o n) (sym added.best) (subst (λ (f : Frame). IsBeaten f.aim.upper n) added.frame beaten);
      }
