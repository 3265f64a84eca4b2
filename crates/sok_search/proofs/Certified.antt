-- Entries of the states of a search, where each of them is done with.
use Rattle.std.proofs.Common.{ℕ, ◌≡◌, ◌<◌, ◌≤◌, ◌+◌, ◌∙◌, inl, inr, refl, sym, ap, subst, List, [], ◌∷◌, ◌++◌, Option, Some, None, All}
use Rattle.std.proofs.Common.{Contains, arith, length, slice_get}
use Rattle.std.proofs.lemmas.List.{length-append}
use Rattle.std.proofs.lemmas.List.Elements.{All-append, All-cons, All-push, All-weaker}
use Rattle.std.proofs.lemmas.Option.{same_Some, slice_get_within}
use Rattle.sok_board.specs.Area.{BoardView, IsAccepted}
use Rattle.sok_cert.specs.Claim.{Claim}
use Rattle.sok_cert.specs.Claim.TheVariants.{Pushes}
use Rattle.sok_cert.specs.Entry.{Entry}
use Rattle.sok_cert.specs.Text.{FitsEntry, FitsReason, IsSmall, numbers_of_position, numbers_of_reason}
use Rattle.sok_board.proofs.Lists.{slice_get-push_cases}
use Rattle.sok_state.specs.declared.key.Key.{Key}
use Rattle.sok_alone.specs.Losses.{losses_of}
use Rattle.sok_search.specs.declared.note.Note.{Note}
use Rattle.sok_search.specs.declared.note.Standing.{Standing}
use Rattle.sok_search.specs.declared.note.Standing.TheVariants.{Open, Expanded, Dead, Lost}
use Rattle.sok_search.specs.Findings.{claim_of}
use Rattle.sok_search.specs.Finished.{AreDone, AreFirstEntries, AreTaken, HasText, IsAtMost, IsDone, IsEntryAt, IsEntryOf, TakesEntry}
use Rattle.sok_search.specs.Halted.{IsLeastOpen, IsOpenAt}
use Rattle.sok_search.specs.Limits.{state_limit}
use Rattle.sok_search.specs.Searches.{Progress, IsBeaten, IsSearch, IsState, Stands}
use Rattle.sok_search.proofs.StatesByIndex.{key-within}

none_waits : (queue : List ℕ) (i : ℕ) → queue ≡ [] → Contains queue i → ⊥
none_waits queue i none (k, within, is) = let empty = ap length none in omega (arith, empty, within)

pub beaten-at_most : (best : Option ℕ) (n : ℕ) → IsBeaten best n → IsAtMost (claim_of best) n
beaten-at_most None n none = none
beaten-at_most (Some k) n beaten = beaten

-- where nothing waits, each state is done with
stands-done : (b : BoardView) (p : Progress) (i : ℕ) (key : Key) (depth : ℕ) → p.queue ≡ [] → (s : Standing) → Stands b p i key depth s
    → IsDone b p.frame.aim.whole (claim_of p.best) (losses_of p.frame.losses) key.least key.boxes depth s
stands-done b p i key depth none (Open bound) (prices, inl waits) = absurd (none_waits p.queue i none waits)
stands-done b p i key depth none (Open bound) (prices, inr beaten) = (bound, prices, beaten-at_most p.best (depth + bound) beaten)
stands-done b p i key depth none (Expanded bound) stands = tt
stands-done b p i key depth none Dead dead = dead
stands-done b p i key depth none (Lost place) lost = lost

pub done-finished : (b : BoardView) (limit : ℕ) (p : Progress) (claim : Claim) → IsSearch b limit p → p.queue ≡ [] → claim ≡ claim_of p.best
    → AreDone b claim p
done-finished b limit p claim search none is i key depth note state =
    subst (λ c. IsDone b p.frame.aim.whole c (losses_of p.frame.losses) key.least key.boxes depth note.standing) (sym is)
    (stands-done b p i key depth none note.standing (search.noted i key depth note state).stands)

-- so it is for what no open state needs less of
stands-least : (b : BoardView) (p : Progress) (i : ℕ) (key : Key) (depth least : ℕ) (s : Standing)
    → ((bound : ℕ) → s ≡ Open bound → least ≤ depth + bound) → Stands b p i key depth s
    → IsDone b p.frame.aim.whole (Pushes least) (losses_of p.frame.losses) key.least key.boxes depth s
stands-least b p i key depth least (Open bound) enough (prices, stands) = (bound, prices, enough bound refl)
stands-least b p i key depth least (Expanded bound) enough stands = tt
stands-least b p i key depth least Dead enough dead = dead
stands-least b p i key depth least (Lost place) enough lost = lost

pub done-least : (b : BoardView) (limit : ℕ) (p : Progress) (least : ℕ) → IsSearch b limit p
    → ((i n : ℕ) → i < length p.table → IsOpenAt p i n → least ≤ n) → AreDone b (Pushes least) p
done-least b limit p least search below i key depth note state =
    stands-least b p i key depth least note.standing (λ bound is. below i (depth + bound) (key-within p i key state.there)
    (record { key = key; depth = depth; note = note; state = state; bound = bound; is_open = is; needs = refl }))
    (search.noted i key depth note state).stands

-- and where none needs fewer than the solution that is known, for what that claims
pub done-beaten : (b : BoardView) (limit : ℕ) (p : Progress) (least : ℕ) → IsSearch b limit p → IsLeastOpen p least → (upper : Option ℕ)
    → IsBeaten upper least → AreDone b (claim_of upper) p
done-beaten b limit p least search of_all None beaten = absurd beaten
done-beaten b limit p least search of_all (Some u) beaten =
    done-least b limit p u search (λ i n within at. let enough = of_all.below i n within at in omega (arith, enough, beaten))

-- it has a text
pub entry-fits : (b : BoardView) → IsAccepted b → (limit : ℕ) (p : Progress) (i : ℕ) (key : Key) (depth : ℕ) (note : Note) (e : Entry) → IsSearch b limit p
    → limit ≤ state_limit → IsState p i key depth note → e.depth ≡ depth
    → e.player ≡ key.least → e.boxes ≡ key.boxes → HasText key.boxes e.reason → FitsEntry e
entry-fits b accepted limit p i key depth note e search small state depth_is player_is boxes_are text =
    let noted = search.noted i key depth note state in
    let shallow = noted.shallow in
    let within = key-within p i key state.there in
    let few = search.few in
    let squares = accepted.few_squares in
    let boxes = accepted.few_boxes in
    let as_many = noted.as_many in
    let player = noted.state.is.placed.player_exists in
    let count = ap length boxes_are in
    let all : All IsSmall e.boxes = subst (All IsSmall) (sym boxes_are)
    (All-weaker (λ n. n < length b.area) IsSmall (λ n exists. omega (arith, exists, squares)) key.boxes noted.state.is.placed.boxes_exist) in
    let position : All IsSmall (numbers_of_position e) = All-cons IsSmall e.depth (e.player ∷ length e.boxes ∷ e.boxes)
    (omega (arith, depth_is, shallow, within, few, small))
    (All-cons IsSmall e.player (length e.boxes ∷ e.boxes) (omega (arith, player_is, player, squares))
    (All-cons IsSmall (length e.boxes) e.boxes (omega (arith, count, as_many, boxes)) all)) in
    let reason = subst (FitsReason e.reason) (sym count) text in
    record {
      small = All-append IsSmall (numbers_of_position e) (numbers_of_reason e.reason) position reason.1;
      priced = reason.0;
      inner = reason.2;
    }

-- what stands at an index is one state alone
pub entry-at : (b : BoardView) (claim : Claim) (p : Progress) (i : ℕ) (key : Key) (depth : ℕ) (note : Note) (e : Entry) → IsState p i key depth note
    → IsEntryOf b claim key depth note e → IsEntryAt b claim p i e
entry-at b claim p i key depth note e state entry other deep noted also =
    let keys = same_Some key other (sym state.there ∙ also.there) in
    let depths = same_Some depth deep (sym state.depth_is ∙ also.depth_is) in
    let notes = same_Some note noted (sym state.note_is ∙ also.note_is) in
    subst (λ k. IsEntryOf b claim k deep noted e) keys
    (subst (λ d. IsEntryOf b claim key d noted e) depths (subst (λ n. IsEntryOf b claim key depth n e) notes entry))

-- no entries, and one more
first-none : (b : BoardView) (claim : Claim) (p : Progress) → AreFirstEntries b claim p 0 []
first-none b claim p = record { as_many = refl; each = λ i key depth note e state there. absurd (empty i e there) }
  where
    empty : (i : ℕ) (e : Entry) → slice_get [] i ≡ Some e → ⊥
    empty i e there = let within = slice_get_within [] i e there in omega (arith, within)

first-more : (b : BoardView) (claim : Claim) (p : Progress) (n : ℕ) (entries : List Entry) (e : Entry) → AreFirstEntries b claim p n entries
    → IsEntryAt b claim p n e → AreFirstEntries b claim p (n + 1) (entries ++ e ∷ [])
first-more b claim p n entries e are one = record {
  as_many = let longer = length-append entries (e ∷ []) in let long = are.as_many in omega (arith, longer, long);
  each = λ i key depth note other state there. elim (slice_get-push_cases entries e i other there) [
    | inl before ↦ are.each i key depth note other state before
    | inr (last, same) ↦
        let at : n ≡ i = sym are.as_many ∙ sym last in
        subst (IsEntryOf b claim key depth note) same (one key depth note (subst (λ k. IsState p k key depth note) (sym at) state))
  ];
}

-- none were taken, and one more
pub taken-none : (Took : List Entry → Type 0) (b : BoardView) (claim : Claim) (p : Progress) → Took [] → AreTaken Took b claim p 0
taken-none Took b claim p took =
    record { entries = []; took = took; first = first-none b claim p; fit = λ k d within. absurd (omega (arith, within)) }

pub taken-more : (Took Takes : List Entry → Type 0) (b : BoardView) (claim : Claim) (p : Progress) (n : ℕ) → AreTaken Took b claim p n
    → TakesEntry Took Takes b claim p n → AreTaken Takes b claim p (n + 1)
taken-more Took Takes b claim p n taken more = record {
  entries = taken.entries ++ more.entry ∷ [];
  took = more.takes taken.entries taken.took;
  first = first-more b claim p n taken.entries more.entry taken.first more.is;
  fit = All-push FitsEntry taken.entries more.entry taken.fit more.fits;
}
