-- Two boxes that can't be solved, one of which was just pushed.
use Rattle.std.proofs.Common.{ℕ, ◌≡◌, ◌≢◌, ◌<◌, ◌∙◌, inl, inr, refl, sym, ap, subst, [], List, Contains, arith, get_or, length}
use Rattle.std.proofs.lemmas.List.{get_or_default}
use Rattle.sok_rules.specs.Play.{NeverFrom, Position}
use Rattle.sok_rules.specs.States.{Same}
use Rattle.sok_board.specs.Area.{BoardView, IsArea, position_of}
use Rattle.sok_board.specs.BoxSets.{IsMoved}
use Rattle.sok_price.specs.Laws.{ArePlaced}
use Rattle.sok_lift.specs.Lifts.{AreLost}
use Rattle.sok_lift.specs.Numbers.{AreLifts, LiftTable, lift_beyond, lift_in, lost}
use Rattle.sok_lift.specs.Pairs.{HasLostPair}
use Rattle.sok_lift.proofs.Held.{beyond-lost}
use Rattle.sok_lift.proofs.LiftLaws.{Never-lifted}
use Rattle.sok_lift.proofs.Pairing.{ArePairs-more, ArePairs-none}

-- two boxes by their places: their lift is as great as is asked for
lost-places : (b : BoardView) (t : LiftTable) → AreLifts b t → (player : ℕ) (boxes : List ℕ) (i j : ℕ) → i < length boxes → j < length boxes → i ≢ j
    → lift_in t player (get_or boxes i 0) (get_or boxes j 0) ≡ lost → AreLost b player boxes (i, j)
lost-places b t lifts player boxes i j i_in j_in apart number = record {
  are = ArePairs-more (length boxes) [] i j (ArePairs-none (length boxes)) i_in j_in apart (λ (k, inside, _). absurd (omega (arith, inside)))
      (λ (k, inside, _). absurd (omega (arith, inside)));
  each = λ n. (
    lift_beyond t n,
    lifts.beyond n,
    let more = beyond-lost n (lift_in t player (get_or boxes i 0) (get_or boxes j 0)) number in omega (arith, more),
  );
}

-- nothing solves after a push that leaves such boxes
pub lost-never : (b : BoardView) → IsArea b.rows b.area → (t : LiftTable) → AreLifts b t → (player : ℕ) (boxes after : List ℕ) (from to : ℕ)
    → IsMoved boxes from to after → (Contains boxes to → ⊥) → ArePlaced b player after → (Contains after player → ⊥) → HasLostPair t player boxes from to
    → (x : Position) → Same b.rows (position_of b player after) x → NeverFrom b.rows x
lost-never b area t lifts player boxes after from to moved free placed off pair =
    let (i, i_in, i_is) = (moved to).1 (inl refl) in
    let (j, j_in, j_is) = (moved pair.other).1 (inr (pair.there, pair.stays)) in
    let one : get_or after i 0 ≡ to = get_or_default after i 0 to i_in ∙ i_is in
    let other : get_or after j 0 ≡ pair.other = get_or_default after j 0 pair.other j_in ∙ j_is in
    let apart : i ≢ j = λ same.
    free (subst (Contains boxes) (sym other ∙ ap (λ k. get_or after k 0) (sym same) ∙ one) pair.there) in
    let number : lift_in t player (get_or after i 0) (get_or after j 0) ≡ lost = rw (one, other) pair.number in
    Never-lifted b area player after (i, j) placed off (lost-places b t lifts player after i j i_in j_in apart number)
