-- Which pushes are legal from some position of a state, and where they lead.
use Rattle.std.proofs.Common.{ℕ, ◌≡◌, ◌<◌, refl, sym, ap, ◌∙◌, subst, List, true, false, true≢false, Some, Contains, length}
use Rattle.std.specs.List.Sorted.{IsStrictlyIncreasing}
use Rattle.std.proofs.lemmas.Option.{same_Some, option_and_then_some}
use Rattle.std.proofs.lemmas.List.Elements.{All-contains}
use Rattle.sok_rules.specs.declared.cell.Dir.{Dir}
use Rattle.sok_rules.specs.Squares.{next, opposite, same_spot}
use Rattle.sok_rules.specs.Levels.{IsProper}
use Rattle.sok_rules.specs.Play.{After, Position, moved}
use Rattle.sok_rules.specs.States.{Same}
use Rattle.sok_rules.proofs.Spots.{next-opposite, opposite-twice, apart_next, same_spot-refl}
use Rattle.sok_rules.proofs.Steps.{IsPush, push_step, step-box}
use Rattle.sok_rules.proofs.Walking.{boxes-Same}
use Rattle.sok_board.specs.Area.{BoardView, IsArea, InArea, spot_of, number_of, position_of, beside}
use Rattle.sok_board.proofs.AreaLaws.{InArea-next, InArea-spot_of, number-InArea, spot_of-number_of}
use Rattle.sok_board.proofs.Beside.{beside-is, beside-within}
use Rattle.sok_board.proofs.Confined.{confines-play}
use Rattle.sok_board.proofs.Inside.{InArea-open}
use Rattle.sok_board.proofs.Positions.{known_box, listed_box, no_box}
use Rattle.sok_board.specs.BoxSets.{IsMoved}
use Rattle.sok_region.specs.Regions.{IsPlaced}
use Rattle.sok_state.specs.declared.key.Key.{Key}
use Rattle.sok_state.specs.declared.push.Push.{Push}
use Rattle.sok_state.specs.Keys.{IsKeyOf, key_position}
use Rattle.sok_state.specs.Listing.{IsClear}
use Rattle.sok_state.specs.Pushes.{IsLegal, LeadsTo}
use Rattle.sok_state.proofs.Moves.{boxes_moved, IsPlaced-moved}

-- the square beside a numbered one
pub beside-next : (b : BoardView) (d : Dir) (n m : ℕ) → beside b n d ≡ Some m → next d (spot_of b n) ≡ Some (spot_of b m)
beside-next b d n m is = option_and_then_some (number_of b) (next d (spot_of b n)) m is
    (λ s ahead number. ahead ∙ ap Some (sym (spot_of-number_of b s m number).1))

-- a number beside a square, and one that is beside it
pub next_behind : (b : BoardView) (d : Dir) (n m : ℕ) → beside b n (opposite d) ≡ Some m → next d (spot_of b m) ≡ Some (spot_of b n)
next_behind b d n m is = ap (λ e. next e (spot_of b m)) (sym (opposite-twice d)) ∙ next-opposite (opposite d) (spot_of b n) (spot_of b m)
    (beside-next b (opposite d) n m is)

-- the man comes behind the box, and it can go ahead
pub record IsFree (b : BoardView) (key : Key) (push : Push) : Type 0 where
  pub behind : ℕ
  pub behind_is : beside b push.from (opposite push.dir) ≡ Some behind
  pub comes : Same b.rows (key_position b key) (position_of b behind key.boxes)
  pub onward : IsClear b key push

-- such a push of a box is legal
pub legal-free : (b : BoardView) → IsArea b.rows b.area → IsProper b.rows → (key : Key) → IsPlaced b key.boxes key.least → (push : Push)
    → Contains key.boxes push.from
    → IsFree b key push → IsLegal b key push
legal-free b area proper key placed push among free =
    let exists : push.from < length b.area = All-contains (λ n. n < length b.area) key.boxes push.from placed.boxes_exist among in
    let ahead_exists = beside-within b push.dir push.from free.onward.ahead free.onward.ahead_is in
    let before : Position = position_of b free.behind key.boxes in
    record {
      after = record { man = spot_of b push.from; boxes = moved before.boxes (spot_of b push.from) (spot_of b free.onward.ahead) };
      leads = record {
        before = before;
        same = free.comes;
        steps = step-box b.rows push.dir before (spot_of b push.from) (spot_of b free.onward.ahead) false
            (next_behind b push.dir push.from free.behind free.behind_is)
            (InArea-open b.rows proper (spot_of b push.from) (InArea-spot_of b area push.from exists)) (listed_box b free.behind key.boxes push.from among)
            (beside-next b push.dir push.from free.onward.ahead free.onward.ahead_is)
            (InArea-open b.rows proper (spot_of b free.onward.ahead) (InArea-spot_of b area free.onward.ahead ahead_exists))
            (no_box b area free.behind key.boxes placed.boxes_exist free.onward.ahead ahead_exists free.onward.clear);
        man = refl;
        exists = exists;
      };
    }

-- a push is a letter that pushes, from the square of its box, and the boxes are those of the key
pushes_box : (b : BoardView) (key : Key) (push : Push) (after : Position) → (leads : LeadsTo b key push after)
    → (pushed : IsPush b.rows push.dir leads.before (record { position = after; pushed = true })) × (pushed.from ≡ spot_of b push.from)
    × (leads.before.boxes ≡ (key_position b key).boxes)
pushes_box b key push after leads =
    let pushed = push_step b.rows push.dir leads.before (record { position = after; pushed = true }) leads.steps refl in (
      pushed,
      ap (λ (y : After). y.position.man) (sym pushed.leads) ∙ leads.man,
      boxes-Same b.rows (key_position b key) leads.before leads.same,
    )

-- a legal push is one of a box that can go ahead
pub clear-legal : (b : BoardView) → IsArea b.rows b.area → (key : Key) → IsPlaced b key.boxes key.least → (push : Push) → IsLegal b key push
    → Contains key.boxes push.from × IsClear b key push
clear-legal b area key placed push legal =
    let leads = legal.leads in
    let (pushed, from_is, kept) = pushes_box b key push legal.after leads in
    let from_inside = subst (InArea b.rows) (sym from_is) (InArea-spot_of b area push.from leads.exists) in
    let (ahead, ahead_number, ahead_exists, ahead_spot) = number-InArea b area pushed.to
    (InArea-next b.rows push.dir pushed.from pushed.to from_inside pushed.beyond pushed.to_open) in
    let boxed : (key_position b key).boxes (spot_of b push.from) ≡ true = (λ i. sym kept i (sym from_is i)) ∙ pushed.box_there in
    let free_ahead : leads.before.boxes (spot_of b ahead) ≡ false = ap leads.before.boxes ahead_spot ∙ pushed.to_free in (
      known_box b area key.least key.boxes placed.boxes_exist push.from leads.exists boxed,
      record {
        ahead = ahead;
        ahead_is = beside-is b push.dir push.from pushed.from pushed.to ahead (sym from_is) pushed.beyond ahead_number;
        clear = λ on. true≢false (sym (listed_box b key.least key.boxes ahead on) ∙ (λ i. sym kept i (spot_of b ahead)) ∙ free_ahead);
      },
    )

-- and the man comes behind it
pub free-legal : (b : BoardView) → IsArea b.rows b.area → (key : Key) → IsPlaced b key.boxes key.least → (push : Push) → IsLegal b key push → IsFree b key push
free-legal b area key placed push legal =
    let leads = legal.leads in
    let (pushed, from_is, kept) = pushes_box b key push legal.after leads in
    let man_inside = (confines-play b.rows (key_position b key) leads.before leads.same.0 (InArea-spot_of b area key.least placed.player_exists)
    leads.same.1).man in
    let (behind, behind_number, behind_exists, behind_spot) = number-InArea b area leads.before.man man_inside in
    let stands : leads.before ≡ position_of b behind key.boxes = λ i. record { man = sym behind_spot i; boxes = kept i } in
    record {
      behind = behind;
      behind_is = beside-is b (opposite push.dir) push.from pushed.from leads.before.man behind (sym from_is)
          (next-opposite push.dir leads.before.man pushed.from pushed.ahead) behind_number;
      comes = subst (Same b.rows (key_position b key)) stands leads.same;
      onward = (clear-legal b area key placed push legal).1;
    }

-- the position to which a push leads, by the numbers of its boxes
pub LeadsTo-position : (b : BoardView) → IsArea b.rows b.area → (key : Key) (push : Push) (ahead : ℕ) (boxes : List ℕ) (after : Position)
    → IsPlaced b key.boxes key.least
    → beside b push.from push.dir ≡ Some ahead → IsMoved key.boxes push.from ahead boxes → LeadsTo b key push after → position_of b push.from boxes ≡ after
LeadsTo-position b area key push ahead boxes after placed ahead_is moves leads =
    let (pushed, from_is, kept) = pushes_box b key push after leads in
    let beyond : next push.dir pushed.from ≡ Some (spot_of b ahead) = ap (next push.dir) from_is ∙ beside-next b push.dir push.from ahead ahead_is in
    let to_is : pushed.to ≡ spot_of b ahead = same_Some pushed.to (spot_of b ahead) (sym pushed.beyond ∙ beyond) in
    let new : moved (key_position b key).boxes (spot_of b push.from) (spot_of b ahead) ≡ (position_of b push.from boxes).boxes =
    boxes_moved b area key.least push.from key.boxes boxes push.from ahead placed.boxes_exist leads.exists
    (beside-within b push.dir push.from ahead ahead_is) moves in
    let came : after.boxes ≡ moved (key_position b key).boxes (spot_of b push.from) (spot_of b ahead) =
    ap (λ (y : After). y.position.boxes) pushed.leads ∙ (λ i. moved (kept i) (from_is i) (to_is i)) in
    λ i. record { man = sym leads.man i; boxes = sym (came ∙ new) i }

-- a square and the one beside it have different numbers
pub beside-apart : (b : BoardView) (d : Dir) (n m : ℕ) → beside b n d ≡ Some m → n ≡ m → ⊥
beside-apart b d n m is same =
    let apart = apart_next d (spot_of b n) (spot_of b m) (beside-next b d n m is) in
    true≢false (sym (same_spot-refl (spot_of b n)) ∙ ap (λ k. same_spot (spot_of b n) (spot_of b k)) same ∙ apart)

-- the square ahead is the one that is clear
pub clear_ahead : (b : BoardView) (key : Key) (push : Push) → IsClear b key push → (ahead : ℕ) → beside b push.from push.dir ≡ Some ahead
    → Contains key.boxes ahead → ⊥
clear_ahead b key push clear ahead is = subst (λ n. Contains key.boxes n → ⊥) (same_Some clear.ahead ahead (sym clear.ahead_is ∙ is)) clear.clear

-- after a legal push the man stands where the box stood, and the boxes are one rising list
pub IsPlaced-after : (b : BoardView) → IsArea b.rows b.area → (key : Key) → IsPlaced b key.boxes key.least → (push : Push) (ahead : ℕ) (boxes : List ℕ)
    → IsLegal b key push
    → beside b push.from push.dir ≡ Some ahead → IsMoved key.boxes push.from ahead boxes → IsStrictlyIncreasing boxes → IsPlaced b boxes push.from
IsPlaced-after b area key placed push ahead boxes legal ahead_is moves rising =
    IsPlaced-moved b area key.least push.from key.boxes boxes push.from ahead placed.boxes_exist legal.leads.exists
    (beside-within b push.dir push.from ahead ahead_is) moves
    (beside-apart b push.dir push.from ahead ahead_is) rising

-- the key of the position with these numbers is that of a position to which the push leads
pub key_after : (b : BoardView) (next : Key) (push : Push) (boxes : List ℕ) (after : Position) → position_of b push.from boxes ≡ after
    → IsKeyOf b (position_of b push.from boxes) next → IsKeyOf b after next
key_after b next push boxes after is of_numbers = subst (λ x. IsKeyOf b x next) is of_numbers
