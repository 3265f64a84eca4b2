-- What losses show: nothing solves where some of the boxes are lost alone.
use Rattle.std.proofs.Common.{ℕ, ◌≡◌, ◌<◌, ◌∙◌, ◌&&◌, ◌==◌, true, inl, inr, refl, sym, ap, subst, List, All, Contains, IfOk, IfSome, OnOk, Option, None, Some, Result, Ok, Err, arith, get_or, length, slice_get}
use Rattle.std.specs.List.Sorted.{IsStrictlyIncreasing}
use Rattle.std.proofs.lemmas.Bool.Decides.{nat_tests}
use Rattle.std.proofs.lemmas.List.{get_or_default}
use Rattle.std.proofs.lemmas.List.Elements.{All-contains}
use Rattle.std.proofs.lemmas.Option.{get_or_from_slice_get, slice_get_within}
use Rattle.sok_rules.specs.declared.fault.Memory.{Memory}
use Rattle.sok_rules.specs.Play.{NeverFrom}
use Rattle.sok_rules.specs.States.{Same}
use Rattle.sok_rules.proofs.Thinner.{NeverFrom-thinner, walk-thinner}
use Rattle.sok_rules.proofs.Steps.{both}
use Rattle.sok_rules.proofs.Walking.{Same-sym}
use lib.Pointwise.{pointwise, pointwise_decides}
use Rattle.sok_board.specs.Area.{BoardView, IsAccepted, position_of}
use Rattle.sok_board.specs.BoxSets.{IsMoved, put_in_order}
use Rattle.sok_board.proofs.Moves.{IsMoved-put}
use Rattle.sok_region.specs.Regions.{IsPlaced}
use Rattle.sok_state.specs.declared.key.Key.{Key}
use Rattle.sok_state.specs.Keys.{IsKeyOf, key_position}
use Rattle.sok_state.proofs.Placed.{IsStanding-placed}
use Rattle.sok_bar.proofs.Memos.{closed-from}
use Rattle.sok_bar.proofs.Patterns.{thinner-among}
use Rattle.sok_bar.proofs.ReasonLaws.{NeverFrom-alone}
use Rattle.sok_alone.specs.declared.losses.Loss.{Loss}
use Rattle.sok_alone.specs.declared.losses.Losses.{Losses}
use Rattle.sok_alone.specs.Losses.{AddsLosses, ArePushed, HasKeyAt, IsLoss, IsLostBy, KeepsPlaces, TellsLoss, losses_of}

-- ---- losses

-- the loss of a state's key is closed from each player of the state
lost-at : (b : BoardView) (player : ℕ) (boxes : List ℕ) (key : Key) → IsKeyOf b (position_of b player boxes) key → key.boxes ≡ boxes → (losses : List Loss)
    → All (IsLoss b) losses → (place : ℕ) → HasKeyAt losses place key → IsLostBy b player boxes losses place
lost-at b player boxes key is boxes_are losses each place at =
    let loss = at.loss in
    let one : IsLoss b loss = subst (IsLoss b) (get_or_from_slice_get losses place loss loss at.there)
    (each place loss (slice_get_within losses place loss at.there)) in
    let squares_are : loss.key.boxes ≡ boxes = ap (λ (k : Key). k.boxes) at.same ∙ boxes_are in
    let same : Same b.rows (position_of b player boxes) (key_position b loss.key) = subst (λ k. Same b.rows (position_of b player boxes) (key_position b k))
    (sym at.same) is.same in record {
      loss = loss;
      there = at.there;
      rising = one.state.is.placed.rising;
      among = λ square there. subst (λ squares. Contains squares square) squares_are there;
      closed = closed-from b player loss.key.least loss.key.boxes loss.inner
          (subst (λ squares. Same b.rows (position_of b player squares) (key_position b loss.key)) (sym squares_are) same) one.closed;
      few = one.few;
      fit = one.fit;
    }

lost-found : (b : BoardView) (player : ℕ) (boxes : List ℕ) (key : Key) → IsKeyOf b (position_of b player boxes) key → key.boxes ≡ boxes
    → (losses : List Loss) → All (IsLoss b) losses → (found : Option ℕ) → IfSome found (λ place. HasKeyAt losses place key)
    → IfSome found (IsLostBy b player boxes losses)
lost-found b player boxes key is boxes_are losses each None told = told
lost-found b player boxes key is boxes_are losses each (Some place) at = lost-at b player boxes key is boxes_are losses each place at

-- a loss is closed from each square to which the player comes in its state
pub lost-from : (b : BoardView) → IsAccepted b → (player : ℕ) (boxes : List ℕ) (losses : List Loss) → All (IsLoss b) losses → (place : ℕ) (loss : Loss)
    → slice_get losses place ≡ Some loss → Contains loss.region player → ((square : ℕ) → Contains loss.key.boxes square → Contains boxes square)
    → IsLostBy b player boxes losses place
lost-from b accepted player boxes losses each place loss there comes among =
    let squares = loss.key.boxes in
    let least = loss.key.least in
    let one : IsLoss b loss = subst (IsLoss b) (get_or_from_slice_get losses place loss loss there) (each place loss (slice_get_within losses place loss there)) in
    let standing = IsStanding-placed b accepted.numbered accepted.proper least squares one.region.placed in
    let same = Same-sym b.rows (position_of b least squares) (position_of b player squares) standing ((one.region.exact player).0 comes).1 in
    record {
      loss = loss;
      there = there;
      rising = one.state.is.placed.rising;
      among = among;
      closed = closed-from b player least squares loss.inner same one.closed;
      few = one.few;
      fit = one.fit;
    }

-- some of the boxes make a position with the player
pub placed-among : (b : BoardView) (player : ℕ) (some boxes : List ℕ) → IsStrictlyIncreasing some → ((square : ℕ) → Contains some square → Contains boxes square)
    → IsPlaced b boxes player → IsPlaced b some player
placed-among b player some boxes rising among placed = record {
  rising = rising;
  boxes_exist = λ k d within. All-contains (λ square. square < length b.area) boxes (get_or some k d) placed.boxes_exist
      (among (get_or some k d) (k, within, get_or_default some k (get_or some k d) d within));
  player_exists = placed.player_exists;
  free = λ there. placed.free (among player there);
}

module _ (b : BoardView) (player : ℕ) (boxes : List ℕ) (losses : List Loss) (place : ℕ) (lost : IsLostBy b player boxes losses place) where
  -- where there are more boxes
  lost-more : (more : List ℕ) → ((square : ℕ) → Contains boxes square → Contains more square) → IsLostBy b player more losses place
  lost-more more among = record {
    loss = lost.loss;
    there = lost.there;
    rising = lost.rising;
    among = λ square there. among square (lost.among square there);
    closed = lost.closed;
    few = lost.few;
    fit = lost.fit;
  }

  -- where more losses are known
  pub lost-kept : (new : List Loss) → KeepsPlaces losses new → IsLostBy b player boxes new place
  lost-kept new kept = record {
    loss = lost.loss;
    there = kept place lost.loss lost.there;
    rising = lost.rising;
    among = lost.among;
    closed = lost.closed;
    few = lost.few;
    fit = lost.fit;
  }

  -- nothing solves
  pub lost-never : IsAccepted b → IsPlaced b boxes player → NeverFrom b.rows (position_of b player boxes)
  lost-never accepted placed =
      let squares = lost.loss.key.boxes in
      NeverFrom-thinner b.rows (position_of b player squares) (position_of b player boxes) (thinner-among b player squares boxes lost.among)
      (NeverFrom-alone b accepted player squares lost.loss.inner (placed-among b player squares boxes lost.rising lost.among placed) lost.closed)

-- ---- walks

-- what is lost from one player of a state is lost from another
pub lost-walked : (b : BoardView) → IsAccepted b → (player other : ℕ) (boxes : List ℕ) (losses : List Loss) (place : ℕ) → IsPlaced b boxes player
    → Same b.rows (position_of b player boxes) (position_of b other boxes) → IsLostBy b player boxes losses place → IsLostBy b other boxes losses place
lost-walked b accepted player other boxes losses place placed same lost =
    let squares = lost.loss.key.boxes in
    let back = Same-sym b.rows (position_of b player boxes) (position_of b other boxes)
    (IsStanding-placed b accepted.numbered accepted.proper player boxes placed) same in
    record {
      loss = lost.loss;
      there = lost.there;
      rising = lost.rising;
      among = lost.among;
      closed = closed-from b other player squares lost.loss.inner
          (walk-thinner b.rows back.0 (position_of b other squares) (position_of b other boxes) (position_of b player boxes)
          (thinner-among b other squares boxes lost.among) back.1 back.2) lost.closed;
      few = lost.few;
      fit = lost.fit;
    }

-- ---- some of the boxes

-- what is lost of some of the boxes is lost of them all
lost-among : (b : BoardView) (player : ℕ) (some boxes : List ℕ) → ((square : ℕ) → Contains some square → Contains boxes square) → (losses : List Loss)
    → (found : Option ℕ) → IfSome found (IsLostBy b player some losses) → IfSome found (IsLostBy b player boxes losses)
lost-among b player some boxes among losses None told = told
lost-among b player some boxes among losses (Some place) lost = lost-more b player some losses place lost boxes among

-- so is what is told of some of them
pub tells-among : (b : BoardView) (player : ℕ) (some boxes : List ℕ) → ((square : ℕ) → Contains some square → Contains boxes square) → (old new : Losses)
    (found : Option ℕ) → TellsLoss b player some old new found → TellsLoss b player boxes old new found
tells-among b player some boxes among old new found told = record {
  losses = told.losses;
  kept = told.kept;
  lost = lost-among b player some boxes among (losses_of new) found told.lost;
}

-- what is told by the key of their state, once it is made
pub tells-key : (b : BoardView) (player : ℕ) (boxes : List ℕ) (key : Key) → IsKeyOf b (position_of b player boxes) key → key.boxes ≡ boxes
    → (old made new : Losses) → KeepsPlaces (losses_of old) (losses_of made) → (r : Result (Option ℕ) Memory) → OnOk r (AddsLosses b made new)
    → IfOk r (λ found. IfSome found (λ place. HasKeyAt (losses_of new) place key)) → IfOk r (TellsLoss b player boxes old new)
tells-key b player boxes key is boxes_are old made new stay (Ok found) more there = record {
  losses = more.losses;
  kept = λ place loss at. more.kept place loss (stay place loss at);
  lost = lost-found b player boxes key is boxes_are (losses_of new) more.losses.each found there;
}
tells-key b player boxes key is boxes_are old made new stay (Err e) more there = tt

-- some of the boxes after a push of one of them
module _ (from to : ℕ) (boxes some after : List ℕ) (among : (square : ℕ) → Contains some square → Contains boxes square) (moved : IsMoved some from to after) where
  pub among-pushed : (square : ℕ) → Contains after square → Contains (put_in_order from to boxes) square
  among-pushed square there = (IsMoved-put from to boxes square).1 (elim ((moved square).0 there) [
    | inl is ↦ inl is
    | inr (before, stays) ↦ inr (among square before, stays)
  ])

  pub placed-pushed : (b : BoardView) → ArePushed b boxes from to → IsStrictlyIncreasing after → IsPlaced b after from
  placed-pushed b pushed rising =
      let exist : (square : ℕ) → Contains after square → square < length b.area = λ square there. elim ((moved square).0 there) [
        | inl is ↦ subst (λ s. s < length b.area) (sym is) pushed.within
        | inr (before, stays) ↦ All-contains (λ s. s < length b.area) boxes square pushed.exist (among square before)
      ] in
      record {
        rising = rising;
        boxes_exist = λ k d within. exist (get_or after k d) (k, within, get_or_default after k (get_or after k d) d within);
        player_exists = All-contains (λ s. s < length b.area) boxes from pushed.exist pushed.there;
        free = λ there. elim ((moved from).0 there) [
          | inl is ↦ pushed.free (subst (Contains boxes) is pushed.there)
          | inr (before, stays) ↦ stays refl
        ];
      }

-- the test by which keys are compared
pub same-key : (a b : Key) → ((a.least == b.least) && pointwise ◌==◌ a.boxes b.boxes) ≡ true → a ≡ b
same-key a b e =
    let (least, boxes) = both (a.least == b.least) (pointwise ◌==◌ a.boxes b.boxes) e in
    let list = (pointwise_decides (λ x y. (λ e. grind (arith, nat_tests, e), λ e. grind (arith, nat_tests, e))) a.boxes b.boxes).0 boxes in
    let number : a.least ≡ b.least = grind (arith, nat_tests, least) in
    λ i. record { boxes = list i; least = number i }
