-- A turn keeps all that is known, and less work remains.
use Rattle.std.proofs.Common.{ℕ, ◌≡◌, ◌<◌, ◌≤◌, ◌+◌, ◌-◌, ◌*◌, ◌∙◌, inl, inr, refl, sym, ap, subst, List, ◌∷◌, Option, Some, None, Contains, arith}
use Rattle.std.proofs.Common.{length, set, slice_get, sum_by}
use Rattle.std.specs.Map.{values_of}
use Rattle.std.proofs.lemmas.Bool.{cases_lt}
use Rattle.std.proofs.lemmas.Option.{same_Some}
use Rattle.sok_board.specs.Area.{BoardView}
use Rattle.sok_board.proofs.Lists.{Contains-cons, Contains-cons_cases}
use Rattle.sok_state.specs.declared.key.Key.{Key}
use Rattle.sok_search.specs.declared.aim.Aim.{Aim}
use Rattle.sok_search.specs.declared.note.Note.{Note}
use Rattle.sok_search.specs.declared.note.Standing.{Standing}
use Rattle.sok_search.specs.declared.note.Standing.TheVariants.{Open, Expanded, Dead, Lost}
use Rattle.sok_search.specs.declared.step.Visit.{Visit}
use Rattle.sok_search.specs.Searches.{Progress, AreEnough, IsBeaten, IsSearch, IsSolved, IsState, Stands}
use Rattle.sok_search.specs.Steps.{HasOneMore, Queues, done, holding, work}
use Rattle.sok_search.specs.Views.{HasExpanded, IsCutOff, IsTurned}
use Rattle.sok_search.proofs.TakenIndices.{keeps-dropped, keeps-expanded, keeps-solved}
use Rattle.sok_search.proofs.Invariant.{keeps-queue}
use Rattle.sok_search.proofs.StatesByIndex.{known-at}

-- an index that is held is one of the table
pub held-within : (b : BoardView) (limit index : ℕ) (p : Progress) → IsSearch b limit (holding index p) → index < length p.table
held-within b limit index p search = search.queued index (0, omega arith, refl)

pub held-noted : (b : BoardView) (limit index : ℕ) (p : Progress) → IsSearch b limit (holding index p) → index < length p.notes
held-noted b limit index p search =
    let within = held-within b limit index p search in
    let notes = search.a_note_each in
    omega (arith, within, notes)

one_less : (a s q more : ℕ) → more ≡ q + 1 → a + (2 * s + q) < a + (2 * s + more)
one_less a s q more e = omega (arith, e)

as_much : (a s q more : ℕ) → q ≡ more → a + (2 * s + q) ≡ a + (2 * s + more)
as_much a s q more e = ap (λ n. a + (2 * s + n)) e

-- an index that is held no more is less work
pub work-held : (limit index : ℕ) (p : Progress) → work limit p < work limit (holding index p)
work-held limit index p = one_less ((limit - length p.table) * (2 * limit + 2)) (sum_by (λ d. d) (values_of p.table)) (length p.queue)
    (length (index ∷ p.queue)) (omega arith)

-- an index that was taken out is held
pub held-search : (b : BoardView) (limit index : ℕ) (p : Progress) (rest : List ℕ) → IsSearch b limit p → HasOneMore rest index p.queue
    → IsSearch b limit (holding index (record p { queue = rest }))
held-search b limit index p rest search taken =
    let member : (i : ℕ) → Contains p.queue i → Contains (index ∷ rest) i = λ i waits. elim ((taken.exact i).0 waits) [
      | inl same ↦ subst (Contains (index ∷ rest)) (sym same) (0, omega arith, refl)
      | inr later ↦ Contains-cons index i rest later
    ] in
    keeps-queue b limit p (index ∷ rest) search (λ i waits. elim (Contains-cons_cases index i rest waits) [
      | inl same ↦ search.queued i ((taken.exact i).1 (inl (sym same)))
      | inr later ↦ search.queued i ((taken.exact i).1 (inr later))
    ]) (λ i key depth note state. inl (member i))

-- an index that is held waits again
pub waits-still : (b : BoardView) (limit index : ℕ) (p : Progress) (queue : List ℕ) → IsSearch b limit (holding index p) → HasOneMore p.queue index queue
    → IsSearch b limit (record p { queue = queue })
waits-still b limit index p queue search more =
    keeps-queue b limit (holding index p) queue search (λ i waits. elim ((more.exact i).0 waits) [
      | inl same ↦ search.queued i (subst (Contains (index ∷ p.queue)) (sym same) (0, omega arith, refl))
      | inr later ↦ search.queued i (Contains-cons index i p.queue later)
    ]) (λ i key depth note state. inl (λ waits. elim (Contains-cons_cases index i p.queue waits) [
      | inl same ↦ (more.exact i).1 (inl (sym same))
      | inr later ↦ (more.exact i).1 (inr later)
    ]))

-- so a search that is cut off waits for no index less
pub cut-waits : (b : BoardView) (limit index bound : ℕ) (aim : Aim) (p : Progress) (queue : List ℕ) (s : Standing) → s ≡ Open bound
    → IsCutOff b limit aim (holding index p) → Queues s index p.queue queue → IsCutOff b limit aim (record p { queue = queue })
cut-waits b limit index bound aim p queue s is cut queues =
    record {
      more = cut.more;
      search = waits-still b limit index p queue cut.search (subst (λ standing. Queues standing index p.queue queue) is queues);
      aim_is = cut.aim_is;
    }

pub work-taken : (limit index : ℕ) (p : Progress) (rest : List ℕ) → HasOneMore rest index p.queue
    → work limit (holding index (record p { queue = rest })) ≡ work limit p
work-taken limit index p rest taken =
    let longer = taken.longer in
    as_much ((limit - length p.table) * (2 * limit + 2)) (sum_by (λ d. d) (values_of p.table)) (length (index ∷ rest)) (length p.queue) (omega (arith, longer))

-- a turn of an index that was taken out is one of the whole search
pub turned-taken : (b : BoardView) (limit index : ℕ) (p q : Progress) (rest : List ℕ) → HasOneMore rest index p.queue
    → IsTurned b limit (holding index (record p { queue = rest })) q → IsTurned b limit p q
turned-taken b limit index p q rest taken turned =
    record { search = turned.search; aim = turned.aim; less = subst (λ n. work limit q < n) (work-taken limit index p rest taken) turned.less }

-- what is not open stands without waiting
pub let-go : (b : BoardView) (limit index : ℕ) (p : Progress) (note : Note) → IsSearch b limit (holding index p) → slice_get p.notes index ≡ Some note
    → ((key : Key) (depth : ℕ) → slice_get (values_of p.table) index ≡ Some depth → Stands b (holding index p) index key depth note.standing
    → Stands b p index key depth note.standing) → IsTurned b limit (holding index p) p
let-go b limit index p note search note_is stands =
    let (key, known) = known-at b limit (holding index p) search index (held-within b limit index p search) in
    let there = known.state.there in
    let depth_is = known.state.depth_is in
    let noted = search.noted index key known.depth note (record { there = there; depth_is = depth_is; note_is = note_is }) in
    record {
      search = keeps-dropped b limit p index key known.depth note search (record { there = there; depth_is = depth_is; note_is = note_is })
          (stands key known.depth depth_is noted.stands);
      aim = refl;
      less = work-held limit index p;
    }

pub go-expanded : (b : BoardView) (limit index bound : ℕ) (p : Progress) (note : Note) → IsSearch b limit (holding index p)
    → slice_get p.notes index ≡ Some note → note.standing ≡ Expanded bound → IsTurned b limit (holding index p) p
go-expanded b limit index bound p note search note_is is =
    let-go b limit index p note search note_is (λ key depth depth_is stood.
    let was : Stands b (holding index p) index key depth (Expanded bound) = subst (Stands b (holding index p) index key depth) is stood in
    subst (Stands b p index key depth) (sym is) was)

pub go-dead : (b : BoardView) (limit index : ℕ) (p : Progress) (note : Note) → IsSearch b limit (holding index p) → slice_get p.notes index ≡ Some note
    → note.standing ≡ Dead → IsTurned b limit (holding index p) p
go-dead b limit index p note search note_is is =
    let-go b limit index p note search note_is (λ key depth depth_is stood.
    let was : Stands b (holding index p) index key depth Dead = subst (Stands b (holding index p) index key depth) is stood in
    subst (Stands b p index key depth) (sym is) was)

pub go-lost : (b : BoardView) (limit index place : ℕ) (p : Progress) (note : Note) → IsSearch b limit (holding index p)
    → slice_get p.notes index ≡ Some note → note.standing ≡ Lost place → IsTurned b limit (holding index p) p
go-lost b limit index place p note search note_is is =
    let-go b limit index p note search note_is (λ key depth depth_is stood.
    let was : Stands b (holding index p) index key depth (Lost place) = subst (Stands b (holding index p) index key depth) is stood in
    subst (Stands b p index key depth) (sym is) was)

pub go-beaten : (b : BoardView) (limit index bound depth : ℕ) (p : Progress) (note : Note) → IsSearch b limit (holding index p)
    → slice_get p.notes index ≡ Some note → note.standing ≡ Open bound → slice_get (values_of p.table) index ≡ Some depth → IsBeaten p.best (depth + bound)
    → IsTurned b limit (holding index p) p
go-beaten b limit index bound deep p note search note_is is deep_is beaten =
    let-go b limit index p note search note_is (λ key depth depth_is stood.
    let was : Stands b (holding index p) index key depth (Open bound) = subst (Stands b (holding index p) index key depth) is stood in
    let same : deep ≡ depth = same_Some deep depth (sym deep_is ∙ depth_is) in
    let now : Stands b p index key depth (Open bound) = (was.0, inr (subst (λ d. IsBeaten p.best (d + bound)) same beaten)) in
    subst (Stands b p index key depth) (sym is) now)

unbeaten : (best : Option ℕ) (depth bound : ℕ) → (IsBeaten best (depth + bound) → ⊥) → (n : ℕ) → IsBeaten best n → depth ≤ n
unbeaten None depth bound far n beaten = absurd beaten
unbeaten (Some k) depth bound far n beaten = elim (cases_lt (depth + bound) k) [ inl above ↦ omega (arith, above, beaten) | inr near ↦ absurd (far near) ]

pub go-solved : (b : BoardView) (limit index bound depth : ℕ) (key : Key) (p : Progress) (note : Note) → IsSearch b limit (holding index p)
    → IsState p index key depth note → note.standing ≡ Open bound → IsSolved b key → (IsBeaten p.best (depth + bound) → ⊥)
    → IsTurned b limit (holding index p) (done p p.notes (Some depth))
go-solved b limit index bound depth key p note search state is solved far =
    record {
      search = keeps-solved b limit p index key depth bound note search state is solved (unbeaten p.best depth bound far);
      aim = refl;
      less = work-held limit index p;
    }

pub go-on : (b : BoardView) (v : Visit) (bound : ℕ) (p q : Progress) (note : Note) → IsState p v.index v.key.now v.depth note → note.standing ≡ Open bound
    → (IsSolved b v.key.now → ⊥) → HasExpanded b v p q → (r : Progress)
    → r ≡ done q (set q.notes v.index (record { origin = note.origin; standing = Expanded bound })) q.best
    → IsTurned b v.limit (holding v.index p) r
go-on b v bound p q note state is unsolved expanded r same =
    let followed = expanded.followed in
    let enough : AreEnough b q.frame.aim.whole v.key.now expanded.chosen =
    subst (λ aim. AreEnough b aim.whole v.key.now expanded.chosen) (sym followed.aim) expanded.enough in
    let stays = followed.stay v.index v.key.now v.depth note (omega arith) state in
    let s = done q (set q.notes v.index (record { origin = note.origin; standing = Expanded bound })) q.best in
    let kept : IsSearch b v.limit s = keeps-expanded b v.limit q v.index v.key.now v.depth bound note followed.search stays is unsolved
    (expanded.chosen, enough, followed.met) in
    let no_more = followed.no_more in
    let less : work v.limit q < work v.limit (holding v.index q) = work-held v.limit v.index q in
    let now : work v.limit s < work v.limit (holding v.index p) =
    below (work v.limit q) (work v.limit (holding v.index q)) (work v.limit (holding v.index p)) less no_more in
    subst (IsTurned b v.limit (holding v.index p)) (sym same) (record { search = kept; aim = followed.aim; less = now })
  where
    below : (x y z : ℕ) → x < y → y ≤ z → x < z
    below x y z f g = omega (arith, f, g)
