-- From entries that are fine, each by itself, to a closed list, and back; and one entry more.
use Rattle.std.proofs.Common.{ℕ, ◌≡◌, ◌<◌, ◌≤◌, ◌+◌, inl, inr, refl, sym, subst, List, [], ◌∷◌, ◌++◌, Option, Some, None, is_none, Bool, true, false, true≢false, IsTrue, All, Contains}
use Rattle.std.proofs.Common.{◌↔◌, MatchBool, arith, length, get_or, slice_get}
use Rattle.std.specs.Map.{keys_of}
use Rattle.std.proofs.lemmas.Bool.{cases_eq, cases_lt}
use Rattle.std.proofs.lemmas.List.{length_push}
use Rattle.std.proofs.lemmas.Option.{slice_get_within, slice_get-get_or}
use Rattle.sok_rules.specs.Play.{AllOnGoals, Position}
use Rattle.sok_rules.specs.States.{Same}
use Rattle.sok_rules.proofs.Walking.{Same-sym}
use Rattle.sok_board.specs.Area.{BoardView, IsAccepted}
use Rattle.sok_board.specs.Limits.{box_limit}
use Rattle.sok_board.proofs.Lists.{All-at, slice_get-push, slice_get-append}
use Rattle.sok_state.specs.declared.key.Key.{Key}
use Rattle.sok_state.specs.declared.push.Push.{Push}
use Rattle.sok_state.specs.Keys.{IsKeyOf}
use Rattle.sok_state.specs.Tables.{IsAt}
use Rattle.sok_closed.specs.declared.placing.Located.{Located}
use Rattle.sok_closed.specs.Fine.{AreEntered, AreFine, IsFine, IsNew, IsOfBoard, IsReasoned}
use Rattle.sok_closed.specs.Lookup.{AreKeys, IsLooking, IsRolled, Rolled, TellsMissed}
use Rattle.sok_closed.specs.Placing.{IsLocated}
use Rattle.sok_closed.specs.Rolls.{IsClosed, IsClosedAt, IsPosition, IsStarter, Node, node_position}
use Rattle.sok_closed.proofs.Entered.{absent-new, before-append, before_more, found-place, AreKeys-more, IsKey-position, IsRolled-append, IsRolled-more}
use Rattle.sok_closed.proofs.Followed.{followed-closed}
use Rattle.sok_closed.proofs.Looking.{node-stands, slice_get-front}
use Rattle.sok_closed.proofs.Missed.{rolled-closed, rolled-open}

-- a choice between two facts, where it is known what is chosen
pub chosen : (P Q : Type 0) (t is : Bool) → t ≡ is → MatchBool t P Q → MatchBool is P Q
chosen P Q t is equal told = subst (λ s. MatchBool s P Q) equal told

by_cases : (P Q : Type 0) (t : Bool) → (t ≡ true → P) → (t ≡ false → Q) → MatchBool t P Q
by_cases P Q true then other = then refl
by_cases P Q false then other = other refl

-- the place of a repeated entry's state
pub record IsSeen {E : Type 0} (node : E → Node) (b : BoardView) (entries : List E) (i : ℕ) (e : E) : Type 0 where
  pub place : ℕ
  pub earlier : E
  pub before : place < i
  pub there : slice_get entries place ≡ Some earlier
  pub same : Same b.rows (node_position b (node earlier)) (node_position b (node e))

module _ {E : Type 0} (node : E → Node) (b : BoardView) (count : ℕ) (IsBarred : E → Type 0) where
  abbrev Fine : List E → ℕ → E → Type 0
  Fine entries i e = IsFine node b count IsBarred entries i e

  -- what is fine of all entries
  pub AreFine-all : {P : E → Type 0} (entries : List E) → AreFine node b count IsBarred entries (length entries)
      → ((i : ℕ) (e : E) → IsFine node b count IsBarred entries i e → P e) → All P entries
  AreFine-all entries fine each = λ k d within. each k (get_or entries k d) (fine k (get_or entries k d) within (slice_get-get_or entries k d within))

  -- the roll of entries that are fine
  pub IsLooking-fine : (entries : List E) (roll : Rolled) → IsAccepted b → count ≤ box_limit → AreEntered node b count IsBarred entries roll
      → IsLooking node b count entries roll.entries
  IsLooking-fine entries roll accepted few known = record {
    accepted = accepted;
    few = few;
    positions = AreFine-all entries known.fine (λ i e one. one.position);
    entered = known.rolled.table;
  }

  -- entries that are fine are a closed list, where one starts and each that is expanded is followed
  pub fine-closed : (from : Position) (entries : List E) → IsAccepted b → AreFine node b count IsBarred entries (length entries)
      → (e : E) × IsStarter node b from entries e → All (IsClosedAt node b entries) entries → IsClosed node b count from IsBarred entries
  fine-closed from entries accepted fine starter followed = record {
    rolled = record {
      positions = AreFine-all entries fine (λ i e one. one.position);
      apart = λ i j e f e_there f_there same.
          let e_fine = fine i e (slice_get_within entries i e e_there) e_there in
          let f_fine = fine j f (slice_get_within entries j f f_there) f_there in
          elim (cases_eq i j) [
            | inl equal ↦ equal
            | inr other ↦ elim (cases_lt i j) [
              | inl below ↦ absurd (f_fine.new i e below e_there same)
              | inr past ↦ absurd (e_fine.new j f (omega (arith, other, past)) f_there
                  (Same-sym b.rows (node_position b (node e)) (node_position b (node f)) (node-stands b accepted count (node e) e_fine.position) same))
            ]
          ];
      unsolved = AreFine-all {P = λ e. (node e).expanded ≡ true → AllOnGoals b.rows (node_position b (node e)) → ⊥} entries fine
          (λ i e one expanded. chosen (AllOnGoals b.rows (node_position b (node e)) → ⊥) (IsBarred e) (node e).expanded true expanded one.reasoned);
      starter = starter;
      followed = followed;
    };
    barred = AreFine-all {P = λ e. (node e).expanded ≡ false → IsBarred e} entries fine
        (λ i e one other. chosen (AllOnGoals b.rows (node_position b (node e)) → ⊥) (IsBarred e) (node e).expanded false other one.reasoned);
  }

  -- and those of a closed list are fine
  pub closed-fine : (from : Position) (entries : List E) → IsClosed node b count from IsBarred entries
      → AreFine node b count IsBarred entries (length entries)
  closed-fine from entries closed i e within there = record {
    position = All-at (λ f. IsPosition b count (node f)) entries closed.rolled.positions i e there;
    new = λ j f before f_there same. let equal = closed.rolled.apart j i f e f_there there same in absurd (omega (arith, equal, before));
    reasoned = by_cases (AllOnGoals b.rows (node_position b (node e)) → ⊥) (IsBarred e) (node e).expanded
        (All-at (λ f. (node f).expanded ≡ true → AllOnGoals b.rows (node_position b (node f)) → ⊥) entries closed.rolled.unsolved i e there)
        (All-at (λ f. (node f).expanded ≡ false → IsBarred f) entries closed.barred i e there);
  }

  -- so they are where no push is missed in their roll, if one starts
  pub missed-closed : (from : Position) (entries : List E) (roll : Rolled) → IsAccepted b → count ≤ box_limit
      → AreEntered node b count IsBarred entries roll → (e : E) × IsStarter node b from entries e → (missed : Option (ℕ × Push)) → TellsMissed b roll missed
      → IsTrue (is_none missed) ↔ IsClosed node b count from IsBarred entries
  missed-closed from entries roll accepted few known starter None followed = (
    λ _. fine-closed from entries accepted known.fine starter
        (rolled-closed node b count entries roll (IsLooking-fine entries roll accepted few known) known.rolled followed),
    λ _. refl,
  )
  missed-closed from entries roll accepted few known starter (Some (i, push)) missed = (
    λ wrong. absurd (true≢false (sym wrong)),
    λ closed.
        let first = rolled-open node b count entries roll (IsLooking-fine entries roll accepted few known) known.rolled i push missed in
        absurd (followed-closed node b entries first.entry push (All-at (IsClosedAt node b entries) entries closed.rolled.followed i first.entry first.there)
        first.is_open),
  )

  -- behind the entries of a front, whatever else follows
  pub IsFine-front : (front more : List E) (i : ℕ) (e : E) → length front ≤ i → IsFine node b count IsBarred (front ++ more) i e
      → IsFine node b count IsBarred front (length front) e
  IsFine-front front more i e within one = record {
    position = one.position;
    new = λ j f before there. one.new j f (omega (arith, before, within)) (slice_get-append front more j f there);
    reasoned = one.reasoned;
  }

  pub IsNew-append : (entries more : List E) (i : ℕ) (e : E) → i ≤ length entries → IsNew node b entries i e → IsNew node b (entries ++ more) i e
  IsNew-append entries more i e within new j f below there = new j f below (slice_get-front entries more j f (omega arith) there)

  IsFine-append : (entries more : List E) (i : ℕ) (e : E) → i ≤ length entries → IsFine node b count IsBarred entries i e
      → IsFine node b count IsBarred (entries ++ more) i e
  IsFine-append entries more i e within one = record {
    position = one.position;
    new = IsNew-append entries more i e within one.new;
    reasoned = one.reasoned;
  }

  pub AreFine-append : (entries more : List E) (n : ℕ) → n ≤ length entries → AreFine node b count IsBarred entries n
      → AreFine node b count IsBarred (entries ++ more) n
  AreFine-append entries more n within fine =
      before-append (Fine entries) (Fine (entries ++ more)) entries more n within (λ i e below one. IsFine-append entries more i e (omega arith) one) fine

  -- an entry whose key stands in the roll was seen
  pub IsSeen-found : (entries : List E) (i : ℕ) (roll : Rolled) (e : E) (key : Key) (place : ℕ) → IsAccepted b → i ≤ length entries
      → IsRolled node b entries i roll → IsPosition b count (node e) → IsKeyOf b (node_position b (node e)) key → IsAt roll.entries key place
      → IsSeen node b entries i e
  IsSeen-found entries i roll e key place accepted exists entered position is there_is =
      let stands = node-stands b accepted count (node e) position in
      let (f, within, there, same) = found-place node b entries i roll.entries (node_position b (node e)) key place stands exists entered.table is there_is in
      record { place = place; earlier = f; before = within; there = there; same = same }

  -- one whose key does not is new
  pub IsNew-absent : (entries : List E) (i : ℕ) (roll : Rolled) (e : E) (key : Key) → IsAccepted b → AreFine node b count IsBarred entries i
      → IsRolled node b entries i roll → IsKeyOf b (node_position b (node e)) key → (Contains (keys_of roll.entries) key → ⊥) → IsNew node b entries i e
  IsNew-absent entries i roll e key accepted fine entered is absent j f below there same =
      absent-new node b accepted entries i roll.entries (node_position b (node e)) key entered.table is absent j f below there
      (node-stands b accepted count (node f) (fine j f below there).position) same

  -- ---- behind entries that are fine

  module _ (entries : List E) (roll : Rolled) (accepted : IsAccepted b) (known : AreEntered node b count IsBarred entries roll) (e : E) where
    rolled-before : IsRolled node b (entries ++ e ∷ []) (length entries) roll
    rolled-before = IsRolled-append node b entries (e ∷ []) (length entries) roll (omega arith) known.rolled

    pub fine-before : AreFine node b count IsBarred (entries ++ e ∷ []) (length entries)
    fine-before = AreFine-append entries (e ∷ []) (length entries) (omega arith) known.fine

    -- one that was seen is not new
    pub seen-behind : (found : Located) (place : ℕ) → IsLocated b count (node e) found → IsAt roll.entries found.key place
        → IsSeen node b entries (length entries) e
    seen-behind found place located there =
        IsSeen-found entries (length entries) roll e found.key place accepted (omega arith) known.rolled located.position located.key_is there

    module _ (found : Located) (located : IsLocated b count (node e) found) (absent : Contains (keys_of roll.entries) found.key → ⊥) where
      pub new-behind : IsNew node b entries (length entries) e
      new-behind = IsNew-absent entries (length entries) roll e found.key accepted known.fine known.rolled located.key_is absent

      -- a new one that may stand is entered
      pub AreEntered-more : (after : Rolled) → IsReasoned node b IsBarred e → after.entries ≡ roll.entries ++ (found.key, (node e).depth) ∷ []
          → after.marks ≡ roll.marks ++ (node e).expanded ∷ [] → AreEntered node b count IsBarred (entries ++ e ∷ []) after
      AreEntered-more after reasoned entries_are marks_are =
          let longer = entries ++ e ∷ [] in
          let last = slice_get-push entries e in
          let many : length entries + 1 ≡ length longer = sym (length_push entries e) in
          let here : IsFine node b count IsBarred longer (length entries) e = record {
            position = located.position;
            new = IsNew-append entries (e ∷ []) (length entries) e (omega arith) new-behind;
            reasoned = reasoned;
          } in
          record {
            fine = subst (AreFine node b count IsBarred longer) many (before_more (Fine longer) longer (length entries) e last fine-before here);
            rolled = subst (λ n. IsRolled node b longer n after) many
                (IsRolled-more node b longer (length entries) roll after e found.key last rolled-before located.key_is absent entries_are marks_are);
          }

-- a roll of a board stays one
pub IsOfBoard-more : (b : BoardView) → IsAccepted b → (count : ℕ) → count ≤ box_limit → (roll after : Rolled) (n : Node) (found : Located)
    → IsLocated b count n found → IsOfBoard b roll → after.entries ≡ roll.entries ++ (found.key, n.depth) ∷ [] → after.room ≡ roll.room → IsOfBoard b after
IsOfBoard-more b accepted count few roll after n found located of_board entries_are room_is = record {
  keys = subst (AreKeys b) (sym entries_are)
      (AreKeys-more b roll.entries found.key n.depth of_board.keys (IsKey-position b accepted count n found.key few located.position located.key_is));
  wide = subst (λ room. length b.area ≤ room) (sym room_is) of_board.wide;
}
