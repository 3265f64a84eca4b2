-- The reason of a state that is found again bars as far as before.
use Rattle.std.proofs.Common.{ℕ, ◌≡◌, ◌<◌, ◌≤◌, ◌+◌, ◌∙◌, List, [], ◌∷◌, ◌++◌, zero, suc, All, Contains, Some}
use Rattle.std.proofs.Common.{arith, ap, get_or, length, refl, slice_get, subst, sym, true}
use Rattle.std.proofs.lemmas.List.Elements.{All-append, All-nil, All-weaker}
use Rattle.std.proofs.lemmas.Option.{same_Some, slice_get-get_or, slice_get_within}
use Rattle.sok_board.specs.Area.{BoardView}
use Rattle.sok_board.specs.Limits.{box_limit}
use Rattle.sok_price.specs.Limits.{price_limit}
use Rattle.sok_price.specs.Matches.{ArePrices}
use Rattle.sok_price.specs.Prices.{AreMembers, IsCrowd, Priced}
use Rattle.sok_distance.specs.Pushing.{Chain, IsStuck}
use Rattle.sok_price.proofs.AssignmentLaws.{AtLeast-IsAssignment}
use Rattle.sok_bar.specs.declared.rest.Rest.{Rest}
use Rattle.sok_bar.specs.declared.rest.Rest.TheVariants.{Never}
use Rattle.sok_bar.specs.Bars.{Barring, Bars}
use Rattle.sok_bar.specs.Jam.{IsJam}
use Rattle.sok_bar.proofs.Rising.{few-rising}
use Rattle.sok_cert.specs.Claim.{Claim}
use Rattle.sok_cert.specs.Claim.TheVariants.{Pushes, Unsolvable}
use Rattle.sok_cert.specs.Reason.{Reason}
use Rattle.sok_cert.specs.Reason.TheVariants as reason
use Rattle.sok_cert.specs.Text.{FitsInner, IsSmall}
use Rattle.sok_cert.specs.Closed.{rest_of}
use Rattle.sok_search.specs.Finished.{CostsEnough, HasText, IsAssigned, IsLoneCrowd, IsStuckAt, ReasonBars}
use Rattle.sok_search.specs.Searches.{IsDead}

-- prices of a bound that is enough
bound-priced : (b : BoardView) (boxes u v : List ℕ) (n depth k : ℕ) → Priced b boxes u v n → k ≤ depth + n
    → (player : ℕ) → Bars b player boxes (Barring.bound u v) (rest_of (Pushes k) depth)
bound-priced b boxes u v n depth k priced near player =
    let enough = priced.enough in
    record {
      a_price_a_box = priced.a_price_a_box;
      a_price_a_goal = priced.a_price_a_goal;
      fair = priced.fair;
      enough = omega (arith, enough, near);
    }

-- prices that are found again bound as far as any did
bound-again : (b : BoardView) (from : ℕ) (boxes u v goal_of : List ℕ) (total depth : ℕ) (claim : Claim) → CostsEnough b true claim from boxes depth
    → ArePrices b boxes u v total goal_of
    → (player : ℕ) → Bars b player boxes (Barring.bound u v) (rest_of claim depth)
bound-again b from boxes u v goal_of total depth Unsolvable (bound, prices, none) are = absurd none
bound-again b from boxes u v goal_of total depth (Pushes k) (bound, has, near) are =
    let ((us, vs, priced), costs) = has.price in
    let least = AtLeast-IsAssignment b boxes us vs goal_of are.distances has.cost priced are.assignment in
    let cost = are.cost in
    let same = has.is_price refl in
    bound-priced b boxes u v total depth k are.priced (omega (arith, least, cost, near, same))

pub assigned-again : (b : BoardView) (from : ℕ) (boxes : List ℕ) (depth : ℕ) (claim : Claim) → CostsEnough b true claim from boxes depth → (why : Reason) → IsAssigned b boxes why
    → (player : ℕ) → ReasonBars b player boxes why (rest_of claim depth)
assigned-again b from boxes depth claim enough reason.Expanded none = absurd none
assigned-again b from boxes depth claim enough reason.Spent none = absurd none
assigned-again b from boxes depth claim enough (reason.Bound u v) (total, goal_of, are) = bound-again b from boxes u v goal_of total depth claim enough are
assigned-again b from boxes depth claim enough (reason.Crowd members) crowd = λ player. crowd
assigned-again b from boxes depth claim enough (reason.Frozen members) none = absurd none
assigned-again b from boxes depth claim enough (reason.Pattern members inner) none = absurd none

-- a dead state without a jam has a crowd, which is found
pub crowd-again : (b : BoardView) (boxes : List ℕ) → ((members : List ℕ) → IsJam b boxes members → ⊥) → IsDead b boxes → (why : Reason)
    → IsAssigned b boxes why → (player : ℕ) (rest : Rest) → ReasonBars b player boxes why rest
crowd-again b boxes none dead reason.Expanded assigned rest = absurd assigned
crowd-again b boxes none dead reason.Spent assigned rest = absurd assigned
crowd-again b boxes none (Barring.spent, of_boxes, bars) (reason.Bound u v) assigned rest = absurd (bars 0 Never)
crowd-again b boxes none (Barring.bound us vs, of_boxes, bars) (reason.Bound u v) assigned rest = absurd (bars 0 Never)
crowd-again b boxes none (Barring.crowd members, of_boxes, bars) (reason.Bound u v) (total, goal_of, are) rest =
    absurd (are.no_crowd members (bars 0 Never))
crowd-again b boxes none (Barring.frozen members, of_boxes, bars) (reason.Bound u v) assigned rest = absurd (none members (bars 0 Never))
crowd-again b boxes none (Barring.pattern members inner, of_boxes, bars) (reason.Bound u v) assigned rest = absurd of_boxes
crowd-again b boxes none dead (reason.Crowd members) crowd rest = λ player. crowd
crowd-again b boxes none dead (reason.Frozen members) assigned rest = absurd assigned
crowd-again b boxes none dead (reason.Pattern members inner) assigned rest = absurd assigned

-- there is no inner position
pub none-inside : All FitsInner []
none-inside = All-nil FitsInner

-- prices that are found have a text
pub prices-fit : (b : BoardView) (boxes u v goal_of : List ℕ) (total : ℕ) → ArePrices b boxes u v total goal_of
    → (length u ≡ length boxes) × All IsSmall (u ++ v) × All FitsInner []
prices-fit b boxes u v goal_of total are = (
  are.priced.a_price_a_box,
  All-append IsSmall u v (small u are.small_boxes) (small v are.small_goals),
  none-inside,
)
  where
    small : (prices : List ℕ) → All (λ price. price ≤ price_limit) prices → All IsSmall prices
    small prices low = All-weaker (λ price. price ≤ price_limit) IsSmall (λ price less. omega (arith, less)) prices low

-- members, which are no more than the boxes, have a text
pub members-fit : (boxes members : List ℕ) → length boxes ≤ box_limit → AreMembers boxes members → All IsSmall (length members ∷ members)
members-fit boxes members few are zero d within = let some = few-rising members (length boxes) are.rising are.within in omega (arith, some, few)
members-fit boxes members few are (suc k) d within = let exists = are.within k d (omega (arith, within)) in omega (arith, exists, few)

-- a box that reaches no goal is a crowd by itself
pub stuck-crowd : (b : BoardView) (boxes : List ℕ) (place : ℕ) → IsStuckAt b boxes place → IsCrowd b boxes (place ∷ [])
stuck-crowd b boxes place (square, there, stuck) = record {
  listed = record { rising = λ k within. absurd (omega (arith, within)); within = λ k d below. first k d (omega (arith, below)) };
  goals = [];
  all_reached = λ x g n (i, (k, below, at), is) goal chain.
      let first : i ≡ place = sym (only k i (omega (arith, below)) at) in
      let same : square ≡ x = same_Some square x (sym there ∙ ap (slice_get boxes) (sym first) ∙ is) in
      absurd (stuck g n goal (subst (λ s. Chain b s g n) (sym same) chain));
  fewer = omega arith;
}
  where
    first : (k d : ℕ) → k ≡ 0 → get_or (place ∷ []) k d < length boxes
    first k d same = subst (λ j. get_or (place ∷ []) j d < length boxes) (sym same) (slice_get_within boxes place square there)

    only : (k i : ℕ) → k ≡ 0 → get_or (place ∷ []) k i ≡ i → place ≡ i
    only k i same at = subst (λ j. get_or (place ∷ []) j i ≡ i) same at

-- among boxes
pub stuck-among : (b : BoardView) (boxes : List ℕ) (square : ℕ) → Contains boxes square → IsStuck b square → (place : ℕ) × IsStuckAt b boxes place
stuck-among b boxes square (k, within, is) stuck = (k, (square, slice_get-get_or boxes k square within ∙ ap Some is, stuck))

-- it bars, whatever is to be shown, and has a text
module _ (b : BoardView) (boxes : List ℕ) (place : ℕ) (at : IsStuckAt b boxes place) (why : Reason) (is : IsLoneCrowd place why) where
  pub lone-bars : (player : ℕ) (rest : Rest) → ReasonBars b player boxes why rest
  lone-bars player rest = subst (λ r. ReasonBars b player boxes r rest) (sym is) (stuck-crowd b boxes place at)

  pub lone-fits : length boxes ≤ box_limit → HasText boxes why
  lone-fits few = subst (HasText boxes) (sym is) (tt, members-fit boxes (place ∷ []) few (stuck-crowd b boxes place at).listed, none-inside)
