-- Letters that make pushes one after another.
use Rattle.std.proofs.Common.{ℕ, ◌≡◌, ◌<◌, ◌+◌, ◌∙◌, inl, inr, refl, sym, ap, subst, List, [], ◌∷◌, ◌++◌, Some, true, false, Contains, append_assoc, arith}
use Rattle.std.proofs.Common.{length}
use Rattle.std.specs.Option.{option_and_then, IsSomeAnd}
use Rattle.std.proofs.lemmas.List.{length-append}
use Rattle.std.proofs.lemmas.Option.{same_Some}
use Rattle.sok_rules.specs.declared.cell.Dir.{Dir}
use Rattle.sok_rules.specs.Squares.{next, opposite}
use Rattle.sok_rules.specs.Play.{AllOnGoals, Position, moved, run, start, step}
use Rattle.sok_rules.specs.States.{Same}
use Rattle.sok_rules.proofs.Man.{IsStanding-start}
use Rattle.sok_rules.proofs.Runs.{pushes-append, run-append}
use Rattle.sok_rules.proofs.Walking.{Same-refl, Same-sym, boxes-Same}
use Rattle.sok_rules.proofs.Steps.{step-box}
use Rattle.sok_board.specs.Area.{BoardView, IsAccepted, beside, position_of, spot_of}
use Rattle.sok_board.proofs.AreaLaws.{InArea-spot_of}
use Rattle.sok_board.proofs.Beside.{beside-within}
use Rattle.sok_board.proofs.Inside.{InArea-open}
use Rattle.sok_board.proofs.Positions.{listed_box, no_box}
use Rattle.sok_region.specs.Regions.{IsRegion, IsWalkBetween}
use Rattle.sok_state.specs.declared.key.Key.{Key}
use Rattle.sok_state.specs.declared.push.Push.{Push}
use Rattle.sok_state.specs.Keys.{IsKey, IsKeyOf, key_position}
use Rattle.sok_state.specs.Pushes.{IsLegal, LeadsTo}
use Rattle.sok_state.proofs.LegalPushes.{IsFree, beside-next, clear-legal, free-legal, next_behind}
use Rattle.sok_state.proofs.States.{keys_equal}
use Rattle.sok_closed.proofs.Looking.{standing-after}
use Rattle.sok_search.specs.declared.walkthrough.Walkthrough.{Walkthrough}
use Rattle.sok_search.specs.Searches.{IsSolved}
use Rattle.sok_search.specs.Walkthroughs.{GoesOn, IsAtStart, FollowsPush, IsSolvedWith, IsSolvingTrace, IsWalkthrough, LeadBy, Leads, pushes_of}
use Rattle.sok_search.proofs.Chains.{pushes-push, run-push}

-- the first push of a chain, which stands last
LeadBy-first : (b : BoardView) (key to : Key) (later : List Push) (push : Push) → LeadBy b key (later ++ push ∷ []) to
    → (next : Key) × Leads b key push next × LeadBy b next later to
LeadBy-first b key to [] push (from, is, leads) = (to, subst (λ k. Leads b k push to) (sym is) leads, refl)
LeadBy-first b key to (last ∷ later) push (from, lead, leads) =
    let (next, first, rest) = LeadBy-first b key from later push lead in
    (next, first, (from, rest, leads))

-- a walkthrough, and pushes that lead on from it to a solved state
pub record IsUnderWay (b : BoardView) (total : ℕ) (walkthrough : Walkthrough) (rest : List Push) : Type 0 where
  pub is : IsWalkthrough b walkthrough
  pub to : Key
  pub lead : LeadBy b walkthrough.key rest to
  pub solved : IsSolved b to
  pub counted : pushes_of b walkthrough.letters.items + length rest ≡ total

-- two keys of the position to which a push leads
same-next : (b : BoardView) → IsAccepted b → (key : Key) (push : Push) (after : Position) (next other : Key) → LeadsTo b key push after
    → IsKeyOf b after next → IsKeyOf b after other → next ≡ other
same-next b accepted key push after next other leads next_is other_is =
    keys_equal b accepted.numbered after after next other (standing-after b key push after leads) next_is other_is (Same-refl b.rows after)

pub under_way-legal : (b : BoardView) (total : ℕ) (walkthrough : Walkthrough) (rest : List Push) (push : Push) (whole : List Push) → whole ≡ rest ++ push ∷ []
    → IsUnderWay b total walkthrough whole → IsLegal b walkthrough.key push
under_way-legal b total walkthrough rest push whole is under_way =
    let (next, first, lead) = LeadBy-first b walkthrough.key under_way.to rest push (subst (λ w. LeadBy b walkthrough.key w under_way.to) is under_way.lead) in
    record { after = first.after; leads = first.leads }

pub under_way-more : (b : BoardView) → IsAccepted b → (total : ℕ) (walkthrough after : Walkthrough) (rest : List Push) (push : Push) (whole : List Push)
    → whole ≡ rest ++ push ∷ [] → IsUnderWay b total walkthrough whole
    → FollowsPush b walkthrough push after → IsUnderWay b total after rest
under_way-more b accepted total walkthrough after rest push whole is under_way followed =
    let (next, first, lead) = LeadBy-first b walkthrough.key under_way.to rest push (subst (λ w. LeadBy b walkthrough.key w under_way.to) is under_way.lead) in
    let is_next = followed.leads first.after first.leads in
    let same : next ≡ after.key = same-next b accepted walkthrough.key push first.after next after.key first.leads first.is is_next in
    let counted = under_way.counted in
    let one_more = followed.one_more in
    let longer = ap length is ∙ length-append rest (push ∷ []) in
    record {
      is = followed.walkthrough;
      to = under_way.to;
      lead = subst (λ k. LeadBy b k rest under_way.to) same lead;
      solved = under_way.solved;
      counted = omega (arith, counted, one_more, longer);
    }

pub under_way-all : (b : BoardView) (total : ℕ) (walkthrough : Walkthrough) (rest : List Push) → rest ≡ [] → IsUnderWay b total walkthrough rest
    → IsSolvedWith b total walkthrough.letters.items
under_way-all b total walkthrough rest none under_way =
    let same : walkthrough.key ≡ under_way.to = subst (λ w. LeadBy b walkthrough.key w under_way.to) none under_way.lead in
    let solved : IsSolved b walkthrough.key = subst (IsSolved b) (sym same) under_way.solved in
    let counted = under_way.counted in
    let empty = ap length none in
    record {
      solves = subst (λ o. IsSomeAnd o (AllOnGoals b.rows)) (sym under_way.is.leads) solved;
      counted = omega (arith, counted, empty);
      ends = under_way.is.ends;
    }

pub under_way-none : (b : BoardView) → IsAccepted b → (walkthrough : Walkthrough) (trace : List Push) → IsSolvingTrace b trace → IsAtStart b walkthrough
    → IsUnderWay b (length trace) walkthrough trace
under_way-none b accepted walkthrough trace solving begun =
    let same : solving.from ≡ walkthrough.key = keys_equal b accepted.numbered (start b.rows) (start b.rows) solving.from walkthrough.key
    (IsStanding-start b.rows accepted.proper) solving.is begun.is (Same-refl b.rows (start b.rows)) in
    let none : pushes_of b walkthrough.letters.items ≡ 0 = ap (pushes_of b) begun.no_letters in
    record {
      is = begun.walkthrough_is;
      to = solving.to;
      lead = subst (λ k. LeadBy b k trace solving.to) same solving.lead;
      solved = solving.solved;
      counted = omega (arith, none);
    }

-- the start
pub begun-start : (b : BoardView) → IsAccepted b → (walkthrough : Walkthrough) (boxes : List ℕ) → IsKey b walkthrough.key → IsKeyOf b (start b.rows) walkthrough.key
    → walkthrough.player < length b.area
    → position_of b walkthrough.player boxes ≡ start b.rows → walkthrough.letters.items ≡ [] → IsAtStart b walkthrough
begun-start b accepted walkthrough boxes state is exists begins none =
    let kept : (start b.rows).boxes ≡ (key_position b walkthrough.key).boxes = sym (boxes-Same b.rows (start b.rows) (key_position b walkthrough.key) is.same) in
    let stands : start b.rows ≡ position_of b walkthrough.player walkthrough.key.boxes = λ i. record { man = (sym begins i).man; boxes = kept i } in
    record {
      is = is;
      walkthrough_is = record {
        state = state;
        exists = exists;
        same = subst (Same b.rows (key_position b walkthrough.key)) stands
            (Same-sym b.rows (start b.rows) (key_position b walkthrough.key) (IsStanding-start b.rows accepted.proper) is.same);
        leads = subst (λ w. run b.rows (start b.rows) w ≡ Some (position_of b walkthrough.player walkthrough.key.boxes)) (sym none) (ap Some stands);
        ends = inl none;
      };
      no_letters = none;
    }

-- one push more
module _ (b : BoardView) (old new : Walkthrough) (push : Push) (walkthrough : IsWalkthrough b old) (on : GoesOn b old.key old.player push old.letters.items new.letters.items)
    (state : IsKey b new.key)
    (leads : (after : Position) → LeadsTo b old.key push after → IsKeyOf b after new.key) (player : push.from ≡ new.player) where
  abbrev here : Position
  here = position_of b old.player old.key.boxes

  is : IsKeyOf b on.after new.key
  is = leads on.after on.leads

  -- the player stands where the box stood
  stands : on.after ≡ position_of b new.player new.key.boxes
  stands =
      let boxes : on.after.boxes ≡ (key_position b new.key).boxes = sym (boxes-Same b.rows on.after (key_position b new.key) is.same) in
      let man : on.after.man ≡ spot_of b new.player = on.leads.man ∙ ap (spot_of b) player in
      λ i. record { man = man i; boxes = boxes i }

  ran : run b.rows (start b.rows) new.letters.items ≡ Some (position_of b new.player new.key.boxes)
  ran =
      ap (run b.rows (start b.rows)) on.is ∙ run-append b.rows old.letters.items (on.walk.0 ++ push.dir ∷ []) (start b.rows)
      ∙ ap (option_and_then (λ t. run b.rows t (on.walk.0 ++ push.dir ∷ []))) walkthrough.leads
      ∙ run-push b.rows here on.before on.after push.dir on.walk on.steps ∙ ap Some stands

  counted : pushes_of b new.letters.items ≡ pushes_of b old.letters.items + 1
  counted =
      let one = pushes-push b.rows here on.before on.after push.dir on.walk on.steps in
      ap (pushes_of b) on.is ∙ pushes-append b.rows old.letters.items (on.walk.0 ++ push.dir ∷ []) (start b.rows) here walkthrough.leads
      ∙ ap (λ n. pushes_of b old.letters.items + n) one

  front_counted : pushes_of b (old.letters.items ++ on.walk.0) ≡ pushes_of b old.letters.items
  front_counted =
      let quiet = on.walk.2 in
      let sum = pushes-append b.rows old.letters.items on.walk.0 (start b.rows) here walkthrough.leads in
      omega (arith, quiet, sum)

  pub followed-made : FollowsPush b old push new
  followed-made = record {
    walkthrough = record {
      state = state;
      exists = subst (λ n. n < length b.area) player on.leads.exists;
      same = subst (Same b.rows (key_position b new.key)) stands
          (Same-sym b.rows on.after (key_position b new.key) (standing-after b old.key push on.after on.leads) is.same);
      leads = ran;
      ends = inr (record {
        front = old.letters.items ++ on.walk.0;
        last = push.dir;
        is = on.is ∙ sym (append_assoc old.letters.items on.walk.0 (push.dir ∷ []));
        one_more = let front = front_counted in let all = counted in omega (arith, front, all);
      });
    };
    one_more = counted;
    leads = leads;
  }

-- a walk to behind a box and a push of it
module _ (b : BoardView) (accepted : IsAccepted b) (key : Key) (region : List ℕ) (is : IsRegion b key.boxes key.least region)
    (push : Push) (legal : IsLegal b key push) where
  pub free : IsFree b key push
  free = free-legal b accepted.numbered key is.placed push legal

  pub behind-is : beside b push.from (opposite push.dir) ≡ Some free.behind
  behind-is = free.behind_is

  pub player-comes : (player : ℕ) → player < length b.area → Same b.rows (position_of b key.least key.boxes) (position_of b player key.boxes)
      → Contains region player
  player-comes player exists same = (is.exact player).1 (exists, same)

  pub behind_comes : (behind : ℕ) → beside b push.from (opposite push.dir) ≡ Some behind → Contains region behind
  behind_comes behind behind_is = subst (Contains region) (same_Some free.behind behind (sym free.behind_is ∙ behind_is))
      (player-comes free.behind (beside-within b (opposite push.dir) push.from free.behind free.behind_is) free.comes)

  pub goes-on : (player behind : ℕ) (walk old new : List Dir) → beside b push.from (opposite push.dir) ≡ Some behind
      → IsWalkBetween b key.boxes player behind walk
      → new ≡ (old ++ walk) ++ push.dir ∷ [] → GoesOn b key player push old new
  goes-on player behind walk old new behind_is between more =
      let among : Contains key.boxes push.from = (clear-legal b accepted.numbered key is.placed push legal).0 in
      let there = (is.exact behind).0 (behind_comes behind behind_is) in
      let ahead = free.onward.ahead in
      let ahead_exists = beside-within b push.dir push.from ahead free.onward.ahead_is in
      let from_open = InArea-open b.rows accepted.proper (spot_of b push.from) (InArea-spot_of b accepted.numbered push.from legal.leads.exists) in
      let ahead_open = InArea-open b.rows accepted.proper (spot_of b ahead) (InArea-spot_of b accepted.numbered ahead ahead_exists) in
      let before : Position = position_of b behind key.boxes in
      let after : Position = record { man = spot_of b push.from; boxes = moved before.boxes (spot_of b push.from) (spot_of b ahead) } in
      let steps : step b.rows push.dir before ≡ Some (record { position = after; pushed = true }) =
      step-box b.rows push.dir before (spot_of b push.from) (spot_of b ahead) false (next_behind b push.dir push.from behind behind_is)
      from_open (listed_box b behind key.boxes push.from among) (beside-next b push.dir push.from ahead free.onward.ahead_is) ahead_open
      (no_box b accepted.numbered behind key.boxes is.placed.boxes_exist ahead ahead_exists free.onward.clear) in
      record {
        before = before;
        walk = (walk, between.leads, between.quiet);
        after = after;
        steps = steps;
        leads = record { before = before; same = there.1; steps = steps; man = refl; exists = legal.leads.exists };
        is = more ∙ append_assoc old walk (push.dir ∷ []);
      }
