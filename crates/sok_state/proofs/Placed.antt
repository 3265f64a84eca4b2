-- Positions for which numbers of squares stand.
use Rattle.std.proofs.Common.{ℕ, ◌≡◌, ◌≢◌, ◌<◌, ◌≤◌, ◌⊎◌, inl, inr, refl, sym, ap, ◌∙◌, List, [], ◌∷◌, true, zero, suc, Contains, arith, length, get_or}
use Rattle.std.proofs.Common.{map, ◌||◌, AllPairs}
use Rattle.std.specs.List.Sorted.{IsStrictlyIncreasing}
use Rattle.std.proofs.lemmas.Bool.{cases_Bool}
use Rattle.std.proofs.lemmas.Bool.Decides.{Decides-eqb}
use Rattle.std.proofs.lemmas.Cmp.{nat_eq_equiv}
use Rattle.std.proofs.lemmas.List.{get_or-map, length-map}
use Rattle.std.proofs.lemmas.List.Elements.{All-contains}
use Rattle.std.proofs.lemmas.List.Folds.{Any-from_list_any}
use Rattle.std.proofs.lemmas.List.Kept.{AllPairs-from_increasing}
use Rattle.std.proofs.lemmas.Map.Made.{IsDistinct-from_AllPairs, is_member-Decides, length-le_from_is_member}
use Rattle.sok_rules.specs.declared.cell.Spot.{Spot}
use Rattle.sok_rules.specs.Squares.{same_spot}
use Rattle.sok_rules.proofs.Spots.{same_spot-is}
use Rattle.sok_board.specs.Area.{BoardView, IsArea, spot_of, position_of, is_among, is_decoration}
use Rattle.sok_board.proofs.Lists.{same_ordered}
use Rattle.sok_board.proofs.Positions.{known_box, listed_box}
use Rattle.sok_region.specs.Regions.{IsPlaced}
pub use Rattle.sok_region.proofs.Regions.{IsStanding-placed}

-- a decoration is a box
pub decoration_there : (b : BoardView) (player : ℕ) (boxes : List ℕ) (s : Spot) → is_decoration b s ≡ true → (position_of b player boxes).boxes s ≡ true
decoration_there b player boxes s decoration = elim (cases_Bool (is_among (map (spot_of b) boxes) s)) [
  | inl among ↦ ap (λ t. t || is_decoration b s) among
  | inr apart ↦ ap (λ t. t || is_decoration b s) apart ∙ decoration
]

-- rising lists with the same numbers are the same
pub same_rising : (xs ys : List ℕ) → IsStrictlyIncreasing xs → IsStrictlyIncreasing ys → ((s : ℕ) → Contains xs s → Contains ys s)
    → ((s : ℕ) → Contains ys s → Contains xs s) → xs ≡ ys
same_rising xs ys rising_xs rising_ys = same_ordered (λ x y. x < y) (λ x y below above. omega (arith, below, above)) xs ys
    (AllPairs-from_increasing xs rising_xs) (AllPairs-from_increasing ys rising_ys)

-- a rising list whose numbers are all in another is no longer
pub length-rising : (xs ys : List ℕ) → IsStrictlyIncreasing xs → ((s : ℕ) → Contains xs s → Contains ys s) → length xs ≤ length ys
length-rising xs ys rising each =
    let apart : AllPairs ◌≢◌ xs = λ i j d before within same. let less = AllPairs-from_increasing xs rising i j d before within in omega (arith, less, same) in
    length-le_from_is_member nat_eq_equiv xs ys (IsDistinct-from_AllPairs Decides-eqb xs apart)
    (λ s there. (is_member-Decides Decides-eqb ys s).1 (each s ((is_member-Decides Decides-eqb xs s).0 there)))

-- positions with the same boxes have them from the same numbers
pub same_boxes : (b : BoardView) → IsArea b.rows b.area → (player other_player : ℕ) (boxes other_boxes : List ℕ) → IsPlaced b boxes player
    → IsPlaced b other_boxes other_player
    → (position_of b player boxes).boxes ≡ (position_of b other_player other_boxes).boxes → boxes ≡ other_boxes
same_boxes b area player other_player boxes other_boxes placed other_placed same =
    same_rising boxes other_boxes placed.rising other_placed.rising
    (λ s there. known_box b area other_player other_boxes other_placed.boxes_exist s
    (All-contains (λ n. n < length b.area) boxes s placed.boxes_exist there) ((λ i. sym same i (spot_of b s)) ∙ listed_box b player boxes s there))
    (λ s there. known_box b area player boxes placed.boxes_exist s (All-contains (λ n. n < length b.area) other_boxes s other_placed.boxes_exist there)
    ((λ i. same i (spot_of b s)) ∙ listed_box b other_player other_boxes s there))

-- what stands on a square is a box by its number, or a decoration
pub box_cases : (b : BoardView) (player : ℕ) (boxes : List ℕ) (s : Spot) → (position_of b player boxes).boxes s ≡ true
    → ((n : ℕ) × Contains boxes n × (s ≡ spot_of b n)) ⊎ (is_decoration b s ≡ true)
box_cases b player boxes s there = elim (cases_Bool (is_among (map (spot_of b) boxes) s)) [
  | inr apart ↦ inr (sym (ap (λ t. t || is_decoration b s) apart) ∙ there)
  | inl among ↦
      let (k, t, below, at, same) = Any-from_list_any (same_spot s) (map (spot_of b) boxes) among in
      let long = length-map boxes (spot_of b) in
      let within : k < length boxes = omega (arith, below, long) in
      let is : s ≡ spot_of b (get_or boxes k 0) = same_spot-is s t same ∙ sym at ∙ get_or-map (spot_of b) boxes k 0 t within in
      inl (get_or boxes k 0, (k, within, get_or_same boxes k 0 (get_or boxes k 0) within), is)
]
  where
    get_or_same : (xs : List ℕ) (k d e : ℕ) → k < length xs → get_or xs k e ≡ get_or xs k d
    get_or_same [] k d e within = absurd (omega (arith, within))
    get_or_same (x ∷ xs) zero d e within = refl
    get_or_same (x ∷ xs) (suc k) d e within = get_or_same xs k d e (omega (arith, within))
