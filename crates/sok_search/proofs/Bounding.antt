-- Lower bounds of a state: the cost of an assignment, and what lifts of pairs of boxes add to it.
use Rattle.std.proofs.Common.{ℕ, Bool, List, arith, refl, subst, sym}
use Rattle.sok_rules.specs.States.{Same}
use Rattle.sok_rules.proofs.Walking.{Same-trans}
use Rattle.sok_board.specs.Area.{BoardView, IsAccepted, position_of}
use Rattle.sok_price.specs.Laws.{ArePlaced}
use Rattle.sok_region.specs.Regions.{IsPlaced}
use Rattle.sok_bar.specs.declared.rest.Rest.TheVariants.{AtLeast}
use Rattle.sok_bar.specs.Bars.{Barring}
use Rattle.sok_bar.proofs.ReasonLaws.{reasons-bar}
use Rattle.sok_alone.specs.declared.losses.Loss.{Loss}
use Rattle.sok_alone.specs.Losses.{IsLostBy}
use Rattle.sok_lift.specs.Numbers.{AreLifts, LiftTable}
use Rattle.sok_lift.proofs.LiftLaws.{AtLeast-lifted_same}
use Rattle.sok_search.specs.declared.note.Standing.{Standing}
use Rattle.sok_search.specs.declared.note.Standing.TheVariants.{Open, Expanded, Dead, Lost}
use Rattle.sok_search.specs.Searches.{HasBound, HasPrice, NeedsPushes}
use Rattle.sok_search.specs.Steps.{IsBoundedAs, IsPriced, IsRaised, IsRaisedTo}

pub placed-apart : (b : BoardView) (boxes : List ℕ) (player : ℕ) → IsPlaced b boxes player → ArePlaced b player boxes
placed-apart b boxes player placed = record { player_exists = placed.player_exists; boxes_exist = placed.boxes_exist; rising = placed.rising }

module _ (b : BoardView) (accepted : IsAccepted b) (player : ℕ) (boxes : List ℕ) (placed : IsPlaced b boxes player) where
  -- what an assignment costs
  needs-price : (n : ℕ) → HasPrice b boxes n → NeedsPushes b player boxes n
  needs-price n ((u, v, priced), cost) = (reasons-bar b accepted player boxes (Barring.bound u v) (AtLeast n) placed priced).each

  bound-priced : (whole : Bool) (n : ℕ) → HasPrice b boxes n → HasBound b whole player boxes n
  bound-priced whole n price = record { cost = n; price = price; no_less = omega arith; is_price = λ _. refl; needs = needs-price n price }

  -- and what lifts add
  bound-raised : (t : LiftTable) → AreLifts b t → (whole : Bool) (old new : ℕ) → HasPrice b boxes old → IsRaisedTo t whole player boxes old new
      → HasBound b whole player boxes new
  bound-raised t lifts whole old new ((u, v, priced), cost) raised = record {
    cost = old;
    price = ((u, v, priced), cost);
    no_less = raised.no_less;
    is_price = raised.same;
    needs = λ x same w solves.
        let enough = AtLeast-lifted_same b accepted.numbered player boxes u v old raised.more _ (placed-apart b boxes player placed) placed.free priced lifts.is
        raised.lifts x same w solves in
        let near = raised.no_more in
        omega (arith, enough, near);
  }

  -- so a standing that is right by prices is right
  pub bounded-priced : (whole : Bool) (losses : List Loss) (s : Standing) → IsPriced b losses player boxes s → IsBoundedAs b whole losses player boxes s
  bounded-priced whole losses (Open n) price = bound-priced whole n price
  bounded-priced whole losses (Expanded n) none = none
  bounded-priced whole losses Dead dead = dead
  bounded-priced whole losses (Lost place) lost = lost

  -- and so it is after the bound was raised
  pub bounded-raised : (t : LiftTable) → AreLifts b t → (whole : Bool) (losses : List Loss) (old new : Standing) → IsPriced b losses player boxes old
      → IsRaised t whole player boxes old new → IsBoundedAs b whole losses player boxes new
  bounded-raised t lifts whole losses (Open n) new price (m, is, raised) =
      subst (IsBoundedAs b whole losses player boxes) (sym is) (bound-raised t lifts whole n m price raised)
  bounded-raised t lifts whole losses (Expanded n) new none same = absurd none
  bounded-raised t lifts whole losses Dead new dead same = subst (IsBoundedAs b whole losses player boxes) (sym same) dead
  bounded-raised t lifts whole losses (Lost place) new lost same = subst (IsBoundedAs b whole losses player boxes) (sym same) lost

-- a player on another square of the same state
module _ (b : BoardView) (one other : ℕ) (boxes : List ℕ) (same : Same b.rows (position_of b one boxes) (position_of b other boxes)) where
  pub bounded-walked : (whole : Bool) (losses : List Loss) → ((place : ℕ) → IsLostBy b one boxes losses place → IsLostBy b other boxes losses place) → (s : Standing)
      → IsBoundedAs b whole losses one boxes s → IsBoundedAs b whole losses other boxes s
  bounded-walked whole losses lost_too (Open n) bounded = record {
    cost = bounded.cost;
    price = bounded.price;
    no_less = bounded.no_less;
    is_price = bounded.is_price;
    needs = λ x here. bounded.needs x (Same-trans b.rows (position_of b one boxes) (position_of b other boxes) x same here);
  }
  bounded-walked whole losses lost_too (Expanded n) none = none
  bounded-walked whole losses lost_too Dead dead = dead
  bounded-walked whole losses lost_too (Lost place) lost = lost_too place lost
