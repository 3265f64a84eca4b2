-- A push that brings a box to where it reaches no goal, or is lost with one or two others: nothing solves after it, so it may be left out. And so may one after
-- which a bound leaves no fewer pushes than a solution has that is known.
use Rattle.std.proofs.Common.{ℕ, List, ◌≡◌, ◌≤◌, ◌+◌, ◌∙◌, inl, refl, sym, ap, subst, true, Bool, Option, Some, None, arith}
use Rattle.sok_rules.specs.Play.{NeverFrom, Position, pushes}
use Rattle.sok_rules.specs.States.{Same}
use Rattle.sok_rules.proofs.Walking.{Same-sym}
use Rattle.sok_board.specs.Area.{BoardView, InArea, IsAccepted, beside, position_of, spot_of}
use Rattle.sok_board.proofs.AreaLaws.{InArea-spot_of}
use Rattle.sok_board.proofs.Beside.{beside-within}
use Rattle.sok_board.proofs.Positions.{listed_box}
use Rattle.sok_distance.specs.Pushing.{IsStuck}
use Rattle.sok_board.specs.BoxSets.{put_in_order}
use Rattle.sok_board.proofs.Moves.{IsMoved-put}
use Rattle.sok_bar.specs.declared.rest.Rest.TheVariants.{Never}
use Rattle.sok_bar.proofs.Kept.{never_stuck}
use Rattle.sok_bar.proofs.ReasonLaws.{reasons-bar}
use Rattle.sok_closed.proofs.Looking.{standing-after}
use Rattle.sok_state.specs.declared.key.Key.{Key}
use Rattle.sok_state.specs.declared.push.Push.{Push}
use Rattle.sok_state.specs.Keys.{IsKey, IsKeyOf, key_position}
use Rattle.sok_state.specs.Pushes.{IsLegal, LeadsTo}
use Rattle.sok_state.proofs.LegalPushes.{LeadsTo-position}
use Rattle.sok_alone.specs.declared.losses.Loss.{Loss}
use Rattle.sok_search.specs.declared.note.Standing.{Standing}
use Rattle.sok_search.specs.declared.note.Standing.TheVariants.{Open, Expanded, Dead, Lost}
use Rattle.sok_search.specs.Searches.{HasBound, IsBeaten, IsDead, IsSpared, LeadsNowhere, LeadsToNoFewer}
use Rattle.sok_search.specs.Steps.{IsBoundedAs}

-- nothing solves once a box stands where it reaches no goal
pub leads-nowhere : (b : BoardView) → IsAccepted b → (key : Key) → IsKey b key → (push : Push) → IsLegal b key push → (to : ℕ)
    → beside b push.from push.dir ≡ Some to → IsStuck b to → LeadsNowhere b key push
leads-nowhere b accepted key state push legal to ahead stuck after leads w =
    let area = accepted.numbered in
    let moves = IsMoved-put push.from to key.boxes in
    let boxes = put_in_order push.from to key.boxes in
    let is : position_of b push.from boxes ≡ after = LeadsTo-position b area key push to boxes after state.is.placed ahead moves leads in
    let there : after.boxes (spot_of b to) ≡ true =
    ap (λ (x : Position). x.boxes (spot_of b to)) (sym is) ∙ listed_box b push.from boxes to ((moves to).1 (inl refl)) in
    never_stuck b area w after to (subst (InArea b.rows) (sym leads.man) (InArea-spot_of b area push.from leads.exists))
    (beside-within b push.dir push.from to ahead) there stuck

-- nor where nothing solves the boxes that it leaves
pub lost-nowhere : (b : BoardView) → IsAccepted b → (key : Key) → IsKey b key → (push : Push) → (to : ℕ) → beside b push.from push.dir ≡ Some to
    → NeverFrom b.rows (position_of b push.from (put_in_order push.from to key.boxes)) → LeadsNowhere b key push
lost-nowhere b accepted key state push to ahead never after leads =
    subst (NeverFrom b.rows)
    (LeadsTo-position b accepted.numbered key push to (put_in_order push.from to key.boxes) after state.is.placed ahead (IsMoved-put push.from to key.boxes) leads)
    never

-- where nothing solves there are no fewer pushes
pub nowhere-no_fewer : (b : BoardView) (upper : Option ℕ) (key : Key) (depth : ℕ) (push : Push) → LeadsNowhere b key push → LeadsToNoFewer b upper key depth push
nowhere-no_fewer b upper key depth push nowhere after leads w solves = absurd (nowhere after leads w solves)

more-beaten : (upper : Option ℕ) (n more : ℕ) → n ≤ more → IsBeaten upper n → IsBeaten upper more
more-beaten None n more near beaten = beaten
more-beaten (Some k) n more near beaten = omega (arith, near, beaten)

-- nor where the boxes of the next state are dead, or a bound of them says so
module _ (b : BoardView) (accepted : IsAccepted b) (key next : Key) (push : Push) (is : (after : Position) → LeadsTo b key push after → IsKeyOf b after next)
    (state : IsKey b next) where
  same-after : (after : Position) → LeadsTo b key push after → Same b.rows (key_position b next) after
  same-after after leads = Same-sym b.rows after (key_position b next) (standing-after b key push after leads) (is after leads).same

  dead-nowhere : IsDead b next.boxes → LeadsNowhere b key push
  dead-nowhere (why, of_boxes, bars) after leads w solves =
      (reasons-bar b accepted next.least next.boxes why Never state.is.placed (bars next.least Never)).each after (same-after after leads) w solves

  bounded-no_fewer : (whole : Bool) (bound : ℕ) → HasBound b whole next.least next.boxes bound → (upper : Option ℕ) (depth : ℕ)
      → IsBeaten upper (depth + 1 + bound) → LeadsToNoFewer b upper key depth push
  bounded-no_fewer whole bound bounded upper depth beaten after leads w solves =
      let enough = bounded.needs after (same-after after leads) w solves in
      more-beaten upper (depth + 1 + bound) (depth + 1 + pushes b.rows after w) (omega (arith, enough)) beaten

  -- so it is where that state is spared
  pub spared-no_fewer : (whole : Bool) (losses : List Loss) (standing : Standing) → IsBoundedAs b whole losses next.least next.boxes standing
      → (upper : Option ℕ) (depth : ℕ) → IsSpared upper standing (depth + 1) → LeadsToNoFewer b upper key depth push
  spared-no_fewer whole losses (Open bound) bounded upper depth beaten = bounded-no_fewer whole bound bounded upper depth beaten
  spared-no_fewer whole losses Dead dead upper depth spared = nowhere-no_fewer b upper key depth push (dead-nowhere dead)
  spared-no_fewer whole losses (Expanded bound) judged upper depth spared = absurd spared
  spared-no_fewer whole losses (Lost place) judged upper depth spared = absurd spared
