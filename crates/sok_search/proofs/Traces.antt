-- The way back from a state to the start.
use Rattle.std.proofs.Common.{ℕ, ◌≡◌, ◌<◌, ◌≤◌, ◌+◌, ◌∙◌, inl, inr, refl, sym, subst, List, [], ◌∷◌, ◌++◌, Option, Some, None, arith, length, slice_get}
use Rattle.std.specs.Map.{values_of}
use Rattle.std.specs.Option.{IfSome}
use Rattle.std.proofs.lemmas.List.{length-append}
use Rattle.std.proofs.lemmas.Option.{same_Some, slice_get_within, get_or_from_slice_get}
use Rattle.sok_board.specs.Area.{BoardView}
use Rattle.sok_state.specs.declared.key.Key.{Key}
use Rattle.sok_state.specs.declared.push.Push.{Push}
use Rattle.sok_state.specs.Tables.{IsAt}
use Rattle.sok_search.specs.declared.note.Note.{Note}
use Rattle.sok_search.specs.declared.note.Origin.{Origin}
use Rattle.sok_search.specs.Searches.{Progress, IsCome, IsFrom, IsReached, IsSearch, IsSolved}
use Rattle.sok_search.specs.Walkthroughs.{GoesBack, IsSolvedAt, LeadBy, TracesBack}
use Rattle.sok_search.proofs.StatesByIndex.{key-within, known-at}

-- one chain after another
LeadBy-append : (b : BoardView) (from key to : Key) (later earlier : List Push) → LeadBy b from earlier key → LeadBy b key later to
    → LeadBy b from (later ++ earlier) to
LeadBy-append b from key to [] earlier first is = subst (LeadBy b from earlier) is first
LeadBy-append b from key to (push ∷ later) earlier first (before, lead, leads) = (before, LeadBy-append b from key before later earlier first lead, leads)

-- pushes lead from the state at one index to that at another, each to one that is deeper
pub record TracesTo (b : BoardView) (p : Progress) (key : Key) (depth at : ℕ) (trace : List Push) : Type 0 where
  pub from : Key
  pub there : IsAt p.table from at
  pub deep : ℕ
  pub depth_is : slice_get (values_of p.table) at ≡ Some deep
  pub lead : LeadBy b from trace key
  pub few : length trace + deep ≤ depth

-- what holds on the way back
pub record IsTracing (p : Progress) (index at : ℕ) (trace : List Push) : Type 0 where
  pub within : at < length p.notes
  pub traces : (b : BoardView) (limit : ℕ) (key : Key) (depth : ℕ) → IsSearch b limit p → IsAt p.table key index
      → slice_get (values_of p.table) index ≡ Some depth
      → TracesTo b p key depth at trace

pub tracing-none : (p : Progress) (index : ℕ) (trace : List Push) → index < length p.notes → trace ≡ [] → IsTracing p index index trace
tracing-none p index trace within none = subst (IsTracing p index index) (sym none) (record {
  within = within;
  traces = λ b limit key depth search there depth_is. record { from = key; there = there; deep = depth; depth_is = depth_is; lead = refl; few = omega arith };
})

-- by what is noted of a state
come-of : (b : BoardView) (limit : ℕ) (p : Progress) (i : ℕ) (key : Key) (depth : ℕ) (note : Note) (o : Option Origin) → IsSearch b limit p
    → IsAt p.table key i → slice_get (values_of p.table) i ≡ Some depth
    → slice_get p.notes i ≡ Some note → note.origin ≡ o → IsCome b p key depth o
come-of b limit p i key depth note o search there depth_is note_is is =
    subst (IsCome b p key depth) is (search.noted i key depth note (record { there = there; depth_is = depth_is; note_is = note_is })).come

pub tracing-more : (p : Progress) (index at : ℕ) (trace after : List Push) (note : Note) (origin : Origin) → GoesBack p → slice_get p.notes at ≡ Some note
    → note.origin ≡ Some origin → after ≡ trace ++ origin.push ∷ []
    → IsTracing p index at trace → IsTracing p index origin.parent after
tracing-more p index at trace after note origin back note_is is more tracing = record {
  within = (back at note origin note_is is).0;
  traces = λ b limit key depth search there depth_is.
      let one = tracing.traces b limit key depth search there depth_is in
      let from : IsFrom b p one.from one.deep origin = come-of b limit p at one.from one.deep note (Some origin) search one.there one.depth_is note_is is in
      let few = one.few in
      let nearer = from.nearer in
      let longer = length-append trace (origin.push ∷ []) in
      let lead : LeadBy b from.parent (origin.push ∷ []) one.from = (from.parent, refl, record { after = from.after; leads = from.leads; is = from.is }) in
      subst (TracesTo b p key depth origin.parent) (sym more) (record {
        from = from.parent;
        there = from.there;
        deep = from.deep;
        depth_is = from.depth_is;
        lead = LeadBy-append b from.parent one.from key trace (origin.push ∷ []) lead one.lead;
        few = omega (arith, few, nearer, longer);
      });
}

pub tracing-all : (p : Progress) (index at : ℕ) (trace : List Push) (note : Note) → slice_get p.notes at ≡ Some note → note.origin ≡ None
    → IsTracing p index at trace → TracesBack p index trace
tracing-all p index at trace note note_is is tracing b limit key depth search there depth_is =
    let one = tracing.traces b limit key depth search there depth_is in
    let few = one.few in
    record {
      from = one.from;
      is = come-of b limit p at one.from one.deep note None search one.there one.depth_is note_is is;
      lead = one.lead;
      few = omega (arith, few);
    }

-- a search goes back
pub goes-back : (b : BoardView) (limit : ℕ) (p : Progress) → IsSearch b limit p → GoesBack p
goes-back b limit p search i note origin note_is is =
    let within = slice_get_within p.notes i note note_is in
    let count = search.a_note_each in
    let (key, known) = known-at b limit p search i (omega (arith, within, count)) in
    let from : IsFrom b p key known.depth origin = come-of b limit p i key known.depth note
    (Some origin) search known.state.there known.state.depth_is note_is is in
    let parent = key-within p origin.parent from.parent from.there in
    let here = get_or_from_slice_get (values_of p.table) i known.depth 0 known.state.depth_is in
    let before = get_or_from_slice_get (values_of p.table) origin.parent from.deep 0 from.depth_is in
    let nearer = from.nearer in
    (omega (arith, parent, count), omega (arith, here, before, nearer))

-- a solved state that is at most as deep as the best stands among the states
pub best-at : (b : BoardView) (p : Progress) (k : ℕ) → IfSome p.best (IsReached b p) → p.best ≡ Some k → (p.frame.aim.upper ≡ Some k → ⊥) → (i : ℕ) × (i < length p.table) × IsSolvedAt b p k i
best-at b p k found is own = elim (subst (λ (o : Option ℕ). IfSome o (IsReached b p)) is found) [
  | inl beside ↦ absurd (own beside)
  | inr one ↦ (
    one.index,
    key-within p one.index one.key one.there,
    record { key = one.key; there = one.there; depth = one.depth; depth_is = one.depth_is; shallow = one.shallow; solved = one.solved },
  )
]

-- what stands at an index is as deep, and solved, as told
pub solved-shallow : (b : BoardView) (p : Progress) (k i depth : ℕ) → slice_get (values_of p.table) i ≡ Some depth → IsSolvedAt b p k i → depth ≤ k
solved-shallow b p k i depth depth_is solved =
    let same = same_Some depth solved.depth (sym depth_is ∙ solved.depth_is) in
    let shallow = solved.shallow in
    omega (arith, same, shallow)

pub solved-key : (b : BoardView) (p : Progress) (k i : ℕ) (key : Key) → IsAt p.table key i → IsSolvedAt b p k i → IsSolved b key
solved-key b p k i key there solved = subst (IsSolved b) (same_Some solved.key key (sym solved.there ∙ there)) solved.solved
