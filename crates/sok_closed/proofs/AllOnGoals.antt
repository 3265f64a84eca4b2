-- Positions in which all boxes stand on goals.
use Rattle.std.proofs.Common.{ℕ, ◌≡◌, ◌<◌, inl, inr, sym, ap, ◌∙◌, List, Bool, true, false, true≢false, arith, length, get_or, map, ◌||◌, IsTrue}
use Rattle.std.proofs.lemmas.Bool.{cases_Bool}
use Rattle.std.proofs.lemmas.List.{length-map, get_or-map, get_or_default}
use Rattle.std.proofs.lemmas.List.Folds.{Any-from_list_any}
use Rattle.sok_rules.specs.declared.cell.Spot.{Spot}
use Rattle.sok_rules.specs.Squares.{holds, is_goal, same_spot}
use Rattle.sok_rules.specs.Play.{AllOnGoals}
use Rattle.sok_rules.proofs.Spots.{same_spot-is}
use Rattle.sok_board.specs.Area.{AreGoals, BoardView, IsAccepted, spot_of, is_among, is_decoration, position_of}
use Rattle.sok_board.proofs.Accepted.{decoration-outside}
use Rattle.sok_board.proofs.Positions.{among_numbers}

other : (p q : Bool) → (p || q) ≡ true → p ≡ false → q ≡ true
other true q e fails = absurd (true≢false fails)
other false q e fails = e

-- a decoration stands on a goal
goal-decoration : (b : BoardView) → IsAccepted b → (s : Spot) → IsTrue (is_decoration b s) → holds is_goal b.rows s ≡ true
goal-decoration b accepted s decoration =
    let (box, out) = decoration-outside b accepted.numbered s decoration in
    elim (cases_Bool (holds is_goal b.rows s)) [ inl goal ↦ goal | inr off ↦ absurd (accepted.no_stray s (box, out, off)) ]

-- where all boxes of the area stand on goals, so do all boxes
pub AreGoals-solves : (b : BoardView) → IsAccepted b → (player : ℕ) (boxes : List ℕ) → AreGoals b boxes → AllOnGoals b.rows (position_of b player boxes)
AreGoals-solves b accepted player boxes goals = λ s there. elim (cases_Bool (is_among (map (spot_of b) boxes) s)) [
  | inl among ↦
      let (k, x, within, is, same) = Any-from_list_any (same_spot s) (map (spot_of b) boxes) among in
      let inside : k < length boxes = let long = length-map boxes (spot_of b) in omega (arith, within, long) in
      let spot_is : s ≡ spot_of b (get_or boxes k 0) = same_spot-is s x same ∙ sym is ∙ get_or-map (spot_of b) boxes k 0 x inside in
      ap (holds is_goal b.rows) spot_is ∙ goals k inside
  | inr apart ↦ goal-decoration b accepted s (other (is_among (map (spot_of b) boxes) s) (is_decoration b s) there apart)
]

pub AreGoals-solved : (b : BoardView) (player : ℕ) (boxes : List ℕ) → AllOnGoals b.rows (position_of b player boxes) → AreGoals b boxes
AreGoals-solved b player boxes solved = λ k within.
    let n = get_or boxes k 0 in
    let among : is_among (map (spot_of b) boxes) (spot_of b n) ≡ true = among_numbers b boxes n (k, within, get_or_default boxes k n 0 within) in
    solved (spot_of b n) (λ i. among i || is_decoration b (spot_of b n))
