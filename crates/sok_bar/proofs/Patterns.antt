-- Boxes that are never solved alone are never solved among others; and the squares of members.
use Rattle.std.proofs.Common.{ℕ, ◌≡◌, ◌<◌, ◌+◌, ◌∙◌, ◌||◌, inl, inr, refl, sym, ap, List, true, Contains}
use Rattle.std.proofs.Common.{arith, length, get_or, map, slice_index}
use Rattle.std.specs.List.Sorted.{IsStrictlyIncreasing}
use Rattle.std.proofs.Math.Bool.{or-true}
use Rattle.std.proofs.lemmas.Bool.{cases_Bool}
use Rattle.std.proofs.lemmas.List.{length-map, get_or-map, get_or_default}
use Rattle.std.proofs.lemmas.List.Folds.{Any-from_list_any}
use Rattle.sok_rules.specs.Squares.{Rows, same_spot}
use Rattle.sok_rules.specs.Play.{NeverFrom, Position}
use Rattle.sok_rules.specs.States.{Same}
use Rattle.sok_rules.proofs.Reaching.{reached-solves}
use Rattle.sok_rules.proofs.Spots.{same_spot-is}
use Rattle.sok_rules.proofs.Thinner.{IsThinner}
use Rattle.sok_board.specs.Area.{BoardView, is_among, is_decoration, position_of, spot_of}
use Rattle.sok_board.proofs.Positions.{among_numbers}
use Rattle.sok_region.specs.Regions.{IsPlaced}
use Rattle.sok_price.specs.Prices.{AreMembers}
use Rattle.sok_bar.specs.Patterns.{squares_at}
use Rattle.sok_bar.proofs.Rising.{below_later}

-- ---- the squares of members

-- the box of a member
square-at : (boxes members : List ℕ) (k : ℕ) → k < length members → get_or (squares_at boxes members) k 0 ≡ get_or boxes (get_or members k 0) 0
square-at boxes members k within = get_or-map (slice_index boxes) members k 0 0 within

pub length-squares_at : (boxes members : List ℕ) → length (squares_at boxes members) ≡ length members
length-squares_at boxes members = length-map members (slice_index boxes)

pub squares_at-rise : (boxes members : List ℕ) → IsStrictlyIncreasing boxes → AreMembers boxes members → IsStrictlyIncreasing (squares_at boxes members)
squares_at-rise boxes members rising listed k within =
    let long = length-squares_at boxes members in
    let below : k + 1 < length members = omega (arith, within, long) in
    let here = square-at boxes members k (omega (arith, below)) in
    let next = square-at boxes members (k + 1) below in
    let less = below_later boxes (get_or members k 0) (get_or members (k + 1) 0) rising (listed.rising k below) (listed.within (k + 1) 0 below) in
    omega (arith, here, next, less)

-- each is one of the boxes
pub among-boxes : (boxes members : List ℕ) (s : ℕ) → AreMembers boxes members → Contains (squares_at boxes members) s → Contains boxes s
among-boxes boxes members s listed (k, within, is) =
    let squares = squares_at boxes members in
    let long = length-squares_at boxes members in
    let below : k < length members = omega (arith, within, long) in
    let inside = listed.within k 0 below in
    let there : get_or boxes (get_or members k 0) 0 ≡ s = sym (square-at boxes members k below) ∙ sym (get_or_default squares k s 0 within) ∙ is in
    (get_or members k 0, inside, get_or_default boxes (get_or members k 0) s 0 inside ∙ there)

-- they make a position with the player
pub IsPlaced-alone : (b : BoardView) (player : ℕ) (boxes members : List ℕ) → IsPlaced b boxes player → AreMembers boxes members
    → IsPlaced b (squares_at boxes members) player
IsPlaced-alone b player boxes members placed listed = record {
  rising = squares_at-rise boxes members placed.rising listed;
  boxes_exist = λ k d within.
      let squares = squares_at boxes members in
      let long = length-squares_at boxes members in
      let below : k < length members = omega (arith, within, long) in
      let exists = placed.boxes_exist (get_or members k 0) 0 (listed.within k 0 below) in
      let here : get_or squares k d ≡ get_or boxes (get_or members k 0) 0 = get_or_default squares k d 0 within ∙ square-at boxes members k below in
      omega (arith, exists, here);
  player_exists = placed.player_exists;
  free = λ among. placed.free (among-boxes boxes members player listed among);
}

-- ---- alone on the board

-- a position has boxes that are among those of another
pub thinner-among : (b : BoardView) (player : ℕ) (squares boxes : List ℕ) → ((n : ℕ) → Contains squares n → Contains boxes n)
    → IsThinner (position_of b player squares) (position_of b player boxes)
thinner-among b player squares boxes are_among = record {
  man = refl;
  among = λ s there.
      elim (cases_Bool (is_among (map (spot_of b) squares) s)) [
        | inl among ↦
            let (k, x, within, is, same) = Any-from_list_any (same_spot s) (map (spot_of b) squares) among in
            let inside : k < length squares = let long = length-map squares (spot_of b) in omega (arith, within, long) in
            let n = get_or squares k 0 in
            let spot_is : s ≡ spot_of b n = same_spot-is s x same ∙ sym is ∙ get_or-map (spot_of b) squares k 0 x inside in
            let listed_n = are_among n (k, inside, get_or_default squares k n 0 inside) in
            ap (λ p. p || is_decoration b s) (ap (is_among (map (spot_of b) boxes)) spot_is ∙ among_numbers b boxes n listed_n)
        | inr apart ↦
            let decoration : is_decoration b s ≡ true = ap (λ p. p || is_decoration b s) (sym apart) ∙ there in
            ap (λ q. is_among (map (spot_of b) boxes) s || q) decoration ∙ or-true (is_among (map (spot_of b) boxes) s)
      ];
}

-- what is never solved from a position is never solved from another of its state
pub NeverFrom-Same : (rows : Rows) (y x : Position) → Same rows y x → NeverFrom rows y → NeverFrom rows x
NeverFrom-Same rows y x (v, leads, quiet) never w solves =
    let (u, on) = reached-solves rows y x (v, leads) w solves in
    never u on
