-- A push is followed: the state that it leads to is added, comes nearer, or stays.
use Rattle.std.proofs.Common.{ℕ, ◌≡◌, ◌<◌, ◌≤◌, ◌+◌, ◌∙◌, inl, inr, refl, sym, ap, subst, [], ◌∷◌, ◌++◌, Some, Contains, arith, length, slice_get}
use Rattle.std.specs.Map.{keys_of, values_of}
use Rattle.std.proofs.lemmas.Option.{same_Some, slice_get_within}
use Rattle.sok_board.specs.Area.{BoardView, boxes_of}
use Rattle.sok_board.proofs.Lists.{slice_get-push, slice_get-append}
use Rattle.sok_state.specs.declared.key.Key.{Key}
use Rattle.sok_state.specs.declared.push.Push.{Push}
use Rattle.sok_state.specs.Pushes.{IsKeyAfter, IsLegal}
use Rattle.sok_state.specs.Tables.{Entries, IsAt, Stays}
use Rattle.sok_alone.specs.declared.losses.Losses.{Losses}
use Rattle.sok_search.specs.declared.note.Note.{Note}
use Rattle.sok_search.specs.declared.note.Standing.{Standing}
use Rattle.sok_search.specs.declared.note.Standing.TheVariants.{Open, Expanded, Dead, Lost}
use Rattle.sok_search.specs.declared.search.Search.{Search}
use Rattle.sok_search.specs.declared.step.Visit.{Visit}
use Rattle.sok_search.specs.Searches.{Frame, Progress, IsCome, IsFrom, IsSearch, IsState, Stands}
use Rattle.sok_search.specs.Steps.{IsAdded, IsChanged, IsJudgedIn, IsPushed, Nears, holding, knowing, reopened}
use Rattle.sok_search.specs.Views.{HoldsState, progress_of}
use Rattle.sok_search.proofs.Entering as held
use Rattle.sok_search.proofs.TakenIndices.{added-holding, changed-holding, work-added, work-changed}
use Rattle.sok_search.proofs.Changing.{added-grows, changed-grows, depth_count, keeps-added, keeps-changed, key_count, set_other, set_same}
use Rattle.sok_search.proofs.Invariant.{Grows-refl}
use Rattle.sok_search.proofs.StatesByIndex.{key-within, noted-at}

-- more was known of boxes taken alone before it was followed
pub pushed-knowing : (b : BoardView) (limit : ℕ) (p : Progress) (losses : Losses) (key : Key) (depth : ℕ) (push : Push) (q : Progress)
    → IsPushed b limit (knowing losses p) key depth push q → IsPushed b limit p key depth push q
pushed-knowing b limit p losses key depth push q pushed = record {
  search = pushed.search;
  aim = pushed.aim;
  grows = pushed.grows;
  stay = λ i other deep note near state.
      pushed.stay i other deep note near (record { there = state.there; depth_is = state.depth_is; note_is = state.note_is });
  met = pushed.met;
  no_more = pushed.no_more;
}

-- what is open again is judged as before
judged-reopened : (b : BoardView) (p : Progress) (i : ℕ) (key : Key) (depth : ℕ) (s : Standing) → Stands b p i key depth s
    → IsJudgedIn b p.frame key (reopened s)
judged-reopened b p i key depth (Open bound) (prices, waits) = prices
judged-reopened b p i key depth (Expanded bound) (prices, unsolved, met) = prices
judged-reopened b p i key depth Dead dead = dead
judged-reopened b p i key depth (Lost place) lost = lost

module _ (b : BoardView) (v : Visit) (before : Search) (visited : HoldsState b v before) (push : Push) (legal : IsLegal b v.key.now push) (next : Key)
    (came : IsKeyAfter b v.key.now push next) where
  abbrev limit : ℕ
  limit = v.limit

  abbrev index : ℕ
  index = v.index

  abbrev key : Key
  key = v.key.now

  abbrev depth : ℕ
  depth = v.depth

  abbrev p : Progress
  p = progress_of before

  search : IsSearch b limit (holding index p)
  search = visited.running.search

  as_many : length next.boxes ≡ length (boxes_of b)
  as_many = came.as_many ∙ (held.was b v before visited).noted.as_many

  from : IsFrom b (holding index p) next (depth + 1) (record { parent = index; push = push })
  from = record {
    parent = key;
    there = visited.there;
    deep = depth;
    depth_is = visited.depth_is;
    nearer = omega arith;
    after = legal.after;
    leads = legal.leads;
    is = came.exact legal.after legal.leads;
  }

  pub shallow-next : depth + 1 ≤ length p.table
  shallow-next =
      let within = key-within p index key visited.there in
      let shallow = (held.was b v before visited).noted.shallow in
      omega (arith, within, shallow)

  -- it is new
  module _ (absent : Contains (keys_of p.table) next → ⊥) (room : length p.table < limit) (note : Note)
      (origin : note.origin ≡ Some (record { parent = index; push = push })) (judged : IsJudgedIn b p.frame next note.standing) (q : Progress)
      (added : IsAdded p next (depth + 1) note q) where
    added-held : IsAdded (holding index p) next (depth + 1) note (holding index q)
    added-held = added-holding index p next (depth + 1) note q added

    pub pushed-added : IsPushed b limit (holding index p) key depth push (holding index q)
    pushed-added =
        let more = added-held in
        let grows = added-grows b limit (holding index p) (holding index q) next (depth + 1) note search more in
        let keys = key_count p.table in
        let depths = depth_count p.table in
        record {
          search = keeps-added b limit (holding index p) (holding index q) next (depth + 1) note search more absent room (record {
            state = came.of_board;
            as_many = as_many;
            shallow = shallow-next;
            come = subst (IsCome b (holding index p) next (depth + 1)) (sym origin) from;
            judged = judged;
          });
          aim = ap (λ (f : Frame). f.aim) added.frame;
          grows = grows;
          stay = λ i other deep n near state. record {
            there = grows.keys other i state.there;
            depth_is = subst (λ xs. slice_get xs i ≡ Some deep) (sym added.depths)
                (slice_get-append (values_of p.table) ((depth + 1) ∷ []) i deep state.depth_is);
            note_is = subst (λ xs. slice_get xs i ≡ Some n) (sym added.notes) (slice_get-append p.notes (note ∷ []) i n state.note_is);
          };
          met = inl (record {
            next = next;
            is = came.exact;
            index = length p.table;
            there = subst (λ xs. slice_get xs (length p.table) ≡ Some next) (sym added.keys)
                (subst (λ n. slice_get (keys_of p.table ++ next ∷ []) n ≡ Some next) keys (slice_get-push (keys_of p.table) next));
            deep = depth + 1;
            depth_is = subst (λ xs. slice_get xs (length p.table) ≡ Some (depth + 1)) (sym added.depths)
                (subst (λ n. slice_get (values_of p.table ++ (depth + 1) ∷ []) n ≡ Some (depth + 1)) depths (slice_get-push (values_of p.table) (depth + 1)));
            near = omega arith;
          });
          no_more = work-added limit (holding index p) next (depth + 1) note (holding index q) more shallow-next room;
        }

  -- it is known already, at an index and a depth
  module _ (at old : ℕ) (other : Note) (state : IsState p at next old other) where
    -- it comes nearer
    module _ (lower : depth + 1 < old) (note : Note) (origin : note.origin ≡ Some (record { parent = index; push = push }))
        (standing : note.standing ≡ reopened other.standing) (q : Progress) (changed : IsChanged p at (depth + 1) note q) where
      pub pushed-changed : IsPushed b limit (holding index p) key depth push (holding index q)
      pushed-changed =
          let more = changed-holding index p at (depth + 1) note q changed in
          let at_state : IsState (holding index p) at next old other = record { there = state.there; depth_is = state.depth_is; note_is = state.note_is } in
          let was_noted = search.noted at next old other at_state in
          let near : depth + 1 ≤ old = omega (arith, lower) in
          let grows = changed-grows b limit (holding index p) (holding index q) at next old (depth + 1) other note search at_state near more in
          let own = was_noted.shallow in
          let apart : (i deep : ℕ) (k : Key) (n : Note) → deep ≤ depth → IsState (holding index p) i k deep n → i ≡ at → ⊥ = λ i deep k n shallow s same.
          let equal : old ≡ deep = same_Some old deep (sym state.depth_is ∙ ap (slice_get (values_of p.table)) (sym same) ∙ s.depth_is) in
          omega (arith, equal, lower, shallow) in
          record {
            search = keeps-changed b limit (holding index p) (holding index q) at next old (depth + 1) other note search at_state near more (record {
              state = came.of_board;
              as_many = as_many;
              shallow = omega (arith, own, near);
              come = subst (IsCome b (holding index p) next (depth + 1)) (sym origin) from;
              judged = subst (IsJudgedIn b p.frame next) (sym standing) (judged-reopened b (holding index p) at next old other.standing was_noted.stands);
            });
            aim = ap (λ (f : Frame). f.aim) changed.frame;
            grows = grows;
            stay = λ i k deep n shallow s. record {
              there = grows.keys k i s.there;
              depth_is = subst (λ xs. slice_get xs i ≡ Some deep) (sym changed.depths)
                  (set_other (values_of p.table) at (depth + 1) i deep (apart i deep k n shallow s) s.depth_is);
              note_is = subst (λ xs. slice_get xs i ≡ Some n) (sym changed.notes) (set_other p.notes at note i n (apart i deep k n shallow s) s.note_is);
            };
            met = inl (record {
              next = next;
              is = came.exact;
              index = at;
              there = grows.keys next at state.there;
              deep = depth + 1;
              depth_is = subst (λ xs. slice_get xs at ≡ Some (depth + 1)) (sym changed.depths)
                  (set_same (values_of p.table) at (depth + 1) (slice_get_within (values_of p.table) at old state.depth_is));
              near = omega arith;
            });
            no_more = work-changed limit (holding index p) at old (depth + 1) note (holding index q) more state.depth_is lower;
          }

    -- it stays
    pub pushed-stays : old ≤ depth + 1 → IsPushed b limit (holding index p) key depth push (holding index p)
    pushed-stays near = record {
      search = search;
      aim = refl;
      grows = Grows-refl p.table;
      stay = λ i k deep n shallow s. s;
      met = inl (record { next = next; is = came.exact; index = at; there = state.there; deep = old; depth_is = state.depth_is; near = near });
      no_more = omega arith;
    }

  pushed-nears : (at : ℕ) → IsAt p.table next at → (q : Progress) → Nears p at (depth + 1) (Some (record { parent = index; push = push })) q
      → IsPushed b limit (holding index p) key depth push (holding index q)
  pushed-nears at at_is q (inl stays) =
      let (other, other_is, stood) = noted-at b limit (holding index p) search at next stays.old at_is stays.depth_is in
      let state : IsState p at next stays.old other = record { there = at_is; depth_is = stays.depth_is; note_is = other_is } in
      subst (λ r. IsPushed b limit (holding index p) key depth push (holding index r)) (sym stays.same) (pushed-stays at stays.old other state stays.near)
  pushed-nears at at_is q (inr nearer) =
      let state : IsState p at next nearer.old nearer.was = record { there = at_is; depth_is = nearer.depth_is; note_is = nearer.note_is } in
      pushed-changed at nearer.old nearer.was state nearer.nearer _ refl refl q nearer.changed

  -- it is known already, in a table that is as it was
  pub pushed-known : (at : ℕ) (frame : Frame) (table : Entries) → frame ≡ p.frame → Stays p.table next at table → (q : Progress)
      → Nears (record p { frame = frame; table = table }) at (depth + 1) (Some (record { parent = index; push = push })) q
      → IsPushed b limit (holding index p) key depth push (holding index q)
  pushed-known at frame table same stays q nears =
      let whole : record p { frame = frame; table = table } ≡ p = λ i. record p { frame = same i; table = stays.unchanged i } in
      pushed-nears at stays.there q (subst (λ r. Nears r at (depth + 1) (Some (record { parent = index; push = push })) q) whole nears)
