-- Boxes after one of them has moved.
use Rattle.std.proofs.Common.{◌≡◌, sym, ap, ◌∙◌, inl, inr, Bool, true, false, if◌then◌else◌}
use Rattle.std.proofs.lemmas.Bool.{cases_Bool}
use Rattle.sok_rules.specs.declared.cell.Spot.{Spot}
use Rattle.sok_rules.specs.Squares.{same_spot}
use Rattle.sok_rules.specs.Play.{moved}
use Rattle.sok_rules.proofs.Spots.{same_spot-is, same_spot-refl}

-- a square that is the one that a box has come to
pub moved-come : (boxes : Spot → Bool) (from to s : Spot) → same_spot s to ≡ true → moved boxes from to s ≡ true
unfolding moved
moved-come boxes from to s come = ap (λ b. if b then true else if same_spot s from then false else boxes s) come

-- one that is the square that a box has left
pub moved-left : (boxes : Spot → Bool) (from to s : Spot) → same_spot s to ≡ false → same_spot s from ≡ true → moved boxes from to s ≡ false
unfolding moved
moved-left boxes from to s elsewhere left =
    ap (λ b. if b then true else if same_spot s from then false else boxes s) elsewhere ∙ ap (λ b. if b then false else boxes s) left

-- and any other
pub moved-other : (boxes : Spot → Bool) (from to s : Spot) → same_spot s to ≡ false → same_spot s from ≡ false → moved boxes from to s ≡ boxes s
unfolding moved
moved-other boxes from to s off_to off_from =
    ap (λ b. if b then true else if same_spot s from then false else boxes s) off_to ∙ ap (λ b. if b then false else boxes s) off_from

-- the square that a box has come to
pub moved-to : (boxes : Spot → Bool) (from to : Spot) → moved boxes from to to ≡ true
moved-to boxes from to = moved-come boxes from to to (same_spot-refl to)

-- the square that a box has left
pub moved-from : (boxes : Spot → Bool) (from to : Spot) → same_spot from to ≡ false → moved boxes from to from ≡ false
moved-from boxes from to apart = moved-left boxes from to from apart (same_spot-refl from)

-- a box that stays
pub moved-kept : (boxes : Spot → Bool) (from to s : Spot) → same_spot s from ≡ false → boxes s ≡ true → moved boxes from to s ≡ true
moved-kept boxes from to s apart there = elim (cases_Bool (same_spot s to)) [
  | inl come ↦ moved-come boxes from to s come
  | inr elsewhere ↦ moved-other boxes from to s elsewhere apart ∙ there
]

-- a box that goes back where it was
pub moved-back : (boxes : Spot → Bool) (from to : Spot) → boxes from ≡ true → boxes to ≡ false → (s : Spot) → moved (moved boxes from to) to from s ≡ boxes s
moved-back boxes from to there free s = elim (cases_Bool (same_spot s from)) [
  | inl back ↦ moved-come (moved boxes from to) to from s back ∙ sym there ∙ ap boxes (sym (same_spot-is s from back))
  | inr elsewhere ↦ elim (cases_Bool (same_spot s to)) [
    | inl left ↦ moved-left (moved boxes from to) to from s elsewhere left ∙ sym free ∙ ap boxes (sym (same_spot-is s to left))
    | inr stays ↦ moved-other (moved boxes from to) to from s elsewhere stays ∙ moved-other boxes from to s stays elsewhere
  ]
]
