-- A finished search that is whole gives a closed list.
use Rattle.std.proofs.Common.{ℕ, ◌≡◌, ◌∙◌, inl, inr, refl, sym, ap, subst, List, true≢false, Some, Bool, true, false, All, Contains, MatchBool, IsTrue, arith}
use Rattle.std.proofs.Common.{length, get_or, slice_get}
use Rattle.std.proofs.lemmas.Bool.{cases_Bool}
use Rattle.std.proofs.lemmas.Option.{slice_get_within, slice_get-get_or}
use Rattle.sok_rules.specs.Play.{AllOnGoals, start}
use Rattle.sok_rules.specs.States.{Same}
use Rattle.sok_rules.proofs.Man.{IsStanding-start}
use Rattle.sok_board.specs.Area.{BoardView, IsAccepted, boxes_of, position_of}
use Rattle.sok_board.proofs.Lists.{Contains-at}
use Rattle.sok_region.specs.Regions.{IsPlaced}
use Rattle.sok_cert.specs.Claim.{Claim}
use Rattle.sok_cert.specs.Entry.{Entry}
use Rattle.sok_cert.specs.Reason.{Reason}
use Rattle.sok_cert.specs.Reason.TheVariants as reason
use Rattle.sok_state.specs.declared.key.Key.{Key}
use Rattle.sok_state.specs.declared.push.Push.{Push}
use Rattle.sok_state.specs.Keys.{IsKeyOf, key_position}
use Rattle.sok_state.specs.Pushes.{IsLegal}
use Rattle.sok_state.specs.Tables.{HasDistinctKeys, IsAt}
use Rattle.sok_state.proofs.States.{keys_equal, key-of-itself}
use Rattle.sok_cert.specs.Closed.{IsBarredBy, IsClosed, IsPosition, IsReasoned, is_expanded, node_of, entry_position, rest_of}
use Rattle.sok_cert.proofs.Closing.{reason-is}
use Rattle.sok_closed.specs.Rolls.{IsClosedAt, IsFollowed}
use Rattle.sok_closed.specs.Lookup.{IsEntered, IsFound, IsLooking}
use Rattle.sok_closed.proofs.Followed.{IsFollowed-found}
use Rattle.sok_closed.proofs.Looking.{node-stands, same_index}
use Rattle.sok_closed.proofs.Starting.{one-starts}
use Rattle.sok_search.specs.declared.note.Note.{Note}
use Rattle.sok_search.specs.declared.note.Standing.{Standing}
use Rattle.sok_search.specs.declared.note.Standing.TheVariants as standing
use Rattle.sok_search.specs.Searches.{Progress, AreEnough, IsMet, IsState, IsSearch, IsNoted, Stands}
use Rattle.sok_search.specs.Finished.{AreFirstEntries, IsEntryOf, IsReasonOf, ReasonBars}
use Rattle.sok_search.proofs.StatesByIndex.{known-at}

-- an entry and the state of which it is made
record Made (b : BoardView) (claim : Claim) (p : Progress) (i : ℕ) (e : Entry) : Type 0 where
  pub key : Key
  pub depth : ℕ
  pub note : Note
  pub state : IsState p i key depth note
  pub noted : IsNoted b p i key depth note
  pub entry : IsEntryOf b claim key depth note e

made-at : (b : BoardView) (limit : ℕ) (claim : Claim) (p : Progress) (entries : List Entry) → IsSearch b limit p
    → AreFirstEntries b claim p (length p.table) entries → (i : ℕ) (e : Entry) → slice_get entries i ≡ Some e → Made b claim p i e
made-at b limit claim p entries search are i e there =
    let within = slice_get_within entries i e there in
    let count = are.as_many in
    let (key, known) = known-at b limit p search i (omega (arith, within, count)) in
    record {
      key = key;
      depth = known.depth;
      note = known.note;
      state = known.state;
      noted = known.noted;
      entry = are.each i key known.depth known.note e known.state there;
    }

-- what is known of each entry's place
all-at : {X : Type 0} (P : X → Type 0) (xs : List X) → ((i : ℕ) (x : X) → slice_get xs i ≡ Some x → P x) → All P xs
all-at P xs each = λ k d within. each k (get_or xs k d) (slice_get-get_or xs k d within)

position-made : (b : BoardView) (claim : Claim) (p : Progress) (i : ℕ) (e : Entry) → Made b claim p i e → IsPosition b e
position-made b claim p i e made = record {
  placed = subst (λ boxes. IsPlaced b boxes e.player) (sym made.entry.boxes_are)
      (subst (IsPlaced b made.key.boxes) (sym made.entry.player_is) made.noted.state.is.placed);
  as_many = ap length made.entry.boxes_are ∙ made.noted.as_many;
}

place-made : (b : BoardView) (claim : Claim) (p : Progress) (i : ℕ) (e : Entry) → (made : Made b claim p i e) → key_position b made.key ≡ entry_position b e
place-made b claim p i e made = λ k. position_of b (sym made.entry.player_is k) (sym made.entry.boxes_are k)

-- the key of the state is that of the entry
key-made : (b : BoardView) → IsAccepted b → (claim : Claim) (p : Progress) (i : ℕ) (e : Entry) → (made : Made b claim p i e)
    → IsKeyOf b (entry_position b e) made.key
key-made b accepted claim p i e made = subst (λ x. IsKeyOf b x made.key) (place-made b claim p i e made)
    (key-of-itself b accepted made.key made.noted.state)

entered-made : (b : BoardView) → IsAccepted b → (claim : Claim) (p : Progress) (i : ℕ) (e : Entry) → Made b claim p i e
    → IsEntered b p.table i (node_of e)
entered-made b accepted claim p i e made = record {
  key = made.key;
  there = made.state.there;
  depth = made.state.depth_is ∙ ap Some (sym made.entry.depth_is);
  is = key-made b accepted claim p i e made;
}

-- the states are a table of the entries
pub looking-made : (b : BoardView) → IsAccepted b → (limit : ℕ) (claim : Claim) (p : Progress) (entries : List Entry)
    → IsSearch b limit p → AreFirstEntries b claim p (length p.table) entries → IsLooking node_of b (length (boxes_of b)) entries p.table
looking-made b accepted limit claim p entries search are = record {
  accepted = accepted;
  few = accepted.few_boxes;
  positions = all-at (IsPosition b) entries (λ i e there. position-made b claim p i e (made-at b limit claim p entries search are i e there));
  entered = record {
    count = sym are.as_many;
    distinct = search.distinct;
    entered = λ i e within there. entered-made b accepted claim p i e (made-at b limit claim p entries search are i e there);
  };
}

-- what is expanded bars nothing
barred : (b : BoardView) (player : ℕ) (boxes : List ℕ) (claim : Claim) (depth : ℕ) (why : Reason) → is_expanded why ≡ true
    → ReasonBars b player boxes why (rest_of claim depth) → ⊥
barred b player boxes claim depth reason.Expanded is bars = bars
barred b player boxes claim depth reason.Spent is bars = true≢false (sym is)
barred b player boxes claim depth (reason.Bound u v) is bars = true≢false (sym is)
barred b player boxes claim depth (reason.Crowd members) is bars = true≢false (sym is)
barred b player boxes claim depth (reason.Frozen members) is bars = true≢false (sym is)
barred b player boxes claim depth (reason.Pattern members inner) is bars = true≢false (sym is)

abbrev reasoned_as : BoardView → Claim → Entry → Bool → Type 0
reasoned_as b claim e t = MatchBool t (AllOnGoals b.rows (entry_position b e) → ⊥) (IsBarredBy b claim e)

reasoned-bars : (b : BoardView) (claim : Claim) (e : Entry) → ReasonBars b e.player e.boxes e.reason (rest_of claim e.depth) → IsReasoned b claim e
reasoned-bars b claim e bars = elim (cases_Bool (is_expanded e.reason)) [
  | inl expanded ↦ absurd (barred b e.player e.boxes claim e.depth e.reason expanded bars)
  | inr other ↦ subst (reasoned_as b claim e) (sym other) bars
]

-- the reason is of the entry's own position and depth
bars-made : (b : BoardView) (claim : Claim) (p : Progress) (i : ℕ) (e : Entry) → (made : Made b claim p i e)
    → ReasonBars b made.key.least made.key.boxes e.reason (rest_of claim made.depth) → ReasonBars b e.player e.boxes e.reason (rest_of claim e.depth)
bars-made b claim p i e made bars =
    subst (λ player. ReasonBars b player e.boxes e.reason (rest_of claim e.depth)) (sym made.entry.player_is)
    (subst (λ boxes. ReasonBars b made.key.least boxes e.reason (rest_of claim e.depth)) (sym made.entry.boxes_are)
    (subst (λ depth. ReasonBars b made.key.least made.key.boxes e.reason (rest_of claim depth)) (sym made.entry.depth_is) bars))

-- by the standing of the state
reasoned-standing : (b : BoardView) (claim : Claim) (p : Progress) (i : ℕ) (e : Entry) (made : Made b claim p i e) (s : Standing)
    → Stands b p i made.key made.depth s → IsReasonOf b claim made.key.least made.key.boxes made.depth s e.reason → IsReasoned b claim e
reasoned-standing b claim p i e made (standing.Expanded bound) (prices, unsolved, met) why =
    let off : AllOnGoals b.rows (entry_position b e) → ⊥ = subst (λ x. AllOnGoals b.rows x → ⊥) (place-made b claim p i e made) unsolved in
    subst (reasoned_as b claim e) (sym (ap is_expanded why)) off
reasoned-standing b claim p i e made (standing.Open bound) stands why = reasoned-bars b claim e (bars-made b claim p i e made why)
reasoned-standing b claim p i e made standing.Dead stands why = reasoned-bars b claim e (bars-made b claim p i e made why)
reasoned-standing b claim p i e made (standing.Lost place) stands why = reasoned-bars b claim e (bars-made b claim p i e made why)

-- a whole search leaves no push out
found-whole : (b : BoardView) (p : Progress) → p.frame.aim.whole ≡ true → (key : Key) (depth : ℕ) (push : Push) → IsMet b p key depth push
    → IsFound b p.table key depth push
found-whole b p whole key depth push (inl found) = found
found-whole b p whole key depth push (inr left) = absurd (true≢false (sym whole ∙ left.part))

-- if every state is kept, the chosen pushes are all legal ones
chosen-whole : (b : BoardView) (p : Progress) → p.frame.aim.whole ≡ true → (key : Key) (chosen : List Push) → AreEnough b p.frame.aim.whole key chosen → (push : Push)
    → IsLegal b key push → Contains chosen push
chosen-whole b p whole key chosen (inl all) push legal = all push legal
chosen-whole b p whole key chosen (inr (part, _)) push legal = absurd (true≢false (sym whole ∙ part))

followed-standing : (b : BoardView) → IsAccepted b → (claim : Claim) (p : Progress) → p.frame.aim.whole ≡ true → (entries : List Entry)
    → IsLooking node_of b (length (boxes_of b)) entries p.table → (i : ℕ) (e : Entry) → Contains entries e
    → (made : Made b claim p i e) (s : Standing) → Stands b p i made.key made.depth s → IsReasonOf b claim made.key.least made.key.boxes made.depth s e.reason
    → IsTrue (is_expanded e.reason) → IsFollowed node_of b entries (node_of e)
followed-standing b accepted claim p whole entries looking i e listed made (standing.Expanded bound) (prices, unsolved, (chosen, enough, met)) why expanded =
    IsFollowed-found node_of b (length (boxes_of b)) entries p.table looking e listed made.key (key-made b accepted claim p i e made)
    (λ push legal. subst (λ depth. IsFound b p.table made.key depth push) (sym made.entry.depth_is)
    (found-whole b p whole made.key made.depth push (met push (chosen-whole b p whole made.key chosen enough push legal))))
followed-standing b accepted claim p whole entries looking i e listed made (standing.Open bound) stands why expanded = absurd
    (barred b e.player e.boxes claim e.depth e.reason expanded (bars-made b claim p i e made why))
followed-standing b accepted claim p whole entries looking i e listed made standing.Dead stands why expanded = absurd
    (barred b e.player e.boxes claim e.depth e.reason expanded (bars-made b claim p i e made why))
followed-standing b accepted claim p whole entries looking i e listed made (standing.Lost place) stands why expanded = absurd
    (barred b e.player e.boxes claim e.depth e.reason expanded (bars-made b claim p i e made why))

-- no two entries are one state, since the keys are distinct
apart-made : (b : BoardView) → IsAccepted b → (claim : Claim) (p : Progress) → HasDistinctKeys p.table → (i j : ℕ) (e f : Entry)
    → Made b claim p i e → Made b claim p j f → Same b.rows (entry_position b e) (entry_position b f) → i ≡ j
apart-made b accepted claim p distinct i j e f of_e of_f same =
    let e_is = key-made b accepted claim p i e of_e in
    let f_is = key-made b accepted claim p j f of_f in
    let e_position = position-made b claim p i e of_e in
    let standing = node-stands b accepted (length (boxes_of b)) (node_of e) e_position in
    let equal : of_e.key ≡ of_f.key = keys_equal b accepted.numbered (entry_position b e) (entry_position b f) of_e.key of_f.key standing e_is f_is same in
    same_index p.table distinct of_f.key i j (subst (λ k. IsAt p.table k i) equal of_e.state.there) of_f.state.there

-- the law
pub entries-closed : (b : BoardView) → IsAccepted b → (limit : ℕ) (claim : Claim) (p : Progress) (entries : List Entry)
    → IsSearch b limit p → p.frame.aim.whole ≡ true
    → AreFirstEntries b claim p (length p.table) entries → IsClosed b claim entries
entries-closed b accepted limit claim p entries search whole are =
    let looking = looking-made b accepted limit claim p entries search are in
    let begun = search.begun in
    let made = made-at b limit claim p entries search are in
    let reasoned = λ (i : ℕ) (e : Entry) (there : slice_get entries i ≡ Some e). let one = made i e there in
    reasoned-standing b claim p i e one one.note.standing one.noted.stands one.entry.reason_is in
    record {
      rolled = record {
        positions = looking.positions;
        apart = λ i j e f e_there f_there same. apart-made b accepted claim p search.distinct i j e f (made i e e_there) (made j f f_there) same;
        unsolved = all-at (λ e. IsTrue (is_expanded e.reason) → AllOnGoals b.rows (entry_position b e) → ⊥) entries
            (λ i e there expanded. reason-is b claim e true expanded (reasoned i e there));
        starter = one-starts node_of b (length (boxes_of b)) entries p.table looking (start b.rows) (IsStanding-start b.rows accepted.proper) begun.key begun.is 0 0
            begun.there begun.depth_is refl;
        followed = all-at (IsClosedAt node_of b entries) entries (λ i e there.
            let one = made i e there in
            followed-standing b accepted claim p whole entries looking i e
            (Contains-at entries e i there) one one.note.standing one.noted.stands one.entry.reason_is);
      };
      barred = all-at (λ e. is_expanded e.reason ≡ false → IsBarredBy b claim e) entries
          (λ i e there other. reason-is b claim e false other (reasoned i e there));
    }
